use Rattle.std.proofs.Common.{◌≡◌, ◌<◌, ◌≤◌, length, slice_index, arith, subst, sym, ◌∙◌}
use Rattle.station_graph.proofs.ClassesLemmas.{KeepsLabels, KeepsLabels-alone}
use Rattle.contraction.specs.Merging.{EdgeOf}
use Rattle.contraction.proofs.EdgeLemmas.{no_edges, after_first, after_second}
use Rattle.contraction.proofs.AloneLemmas.{alone_after, rises_to}
use Rattle.contraction.proofs.labels.label_in_turn.Goals as goal

pub firsts-init : goal.firsts-init
firsts-init c =
    let p = c.args.first.now in
    let l = c.args.first_labels.now in
    let q = c.args.second.now in
    let m = c.args.second_labels.now in
    let a = c.part.ensures in
    let fits = c.requires.first in (
      KeepsLabels-alone (EdgeOf p l 0 q m 0) (length c.args.labels.now) c.part.new.labels a.len a.alone
          (no_edges p l q m),
      λ k from k_in. record {
        own = a.alone (slice_index p k) (fits.inside k k_in);
        only = λ j j_in e. sym (a.alone j (omega (arith, a.len))) ∙ e;
      },
    )

pub follow_alone-requires-clause-lower : goal.follow_alone-requires-clause-lower
follow_alone-requires-clause-lower c =
    let p = c.args.first.now in
    let l = c.args.first_labels.now in
    let i = c.firsts.i in
    let fits = c.requires.first in
    let i_in : i < length p = omega arith in
    omega (
      arith,
      c.firsts.invariant.0.below (slice_index p (slice_index l i)),
      rises_to p (slice_index l i) i fits.rises (fits.below i i_in) i_in,
    )

pub firsts-preserved : goal.firsts-preserved
firsts-preserved c =
    let p = c.args.first.now in
    let l = c.args.first_labels.now in
    let i = c.firsts.i in
    let fits = c.requires.first in
    let i_in : i < length p = omega arith in
    let below = fits.below i i_in in
    let a_in = fits.inside i i_in in
    let keeps = c.firsts.invariant.0 in
    let lower : slice_index c.firsts.labels (slice_index p (slice_index l i)) ≤ slice_index p i =
    omega (arith, keeps.below (slice_index p (slice_index l i)), rises_to p (slice_index l i) i fits.rises below i_in) in
    rw c.follow_alone.ensures (
      after_first p l c.args.second.now c.args.second_labels.now i 0 (length c.args.labels.now) c.firsts.labels a_in
          (fits.inside (slice_index l i) (omega arith)) keeps,
      alone_after p c.firsts.labels i (slice_index p (slice_index l i)) fits.rises i_in (omega (arith, keeps.len)) lower
          c.firsts.invariant.1,
    )

pub seconds-preserved : goal.seconds-preserved
seconds-preserved c =
    let q = c.args.second.now in
    let m = c.args.second_labels.now in
    let j = c.seconds.j in
    let fits = c.requires.second in
    let j_in : j < length q = omega arith in
    let below = fits.below j j_in in
    rw c.follow.ensures
    (after_second c.args.first.now c.args.first_labels.now q m (length c.args.first.now) j (length c.args.labels.now)
    c.seconds.labels
    (fits.inside j j_in) (fits.inside (slice_index m j) (omega arith)) c.seconds.invariant)

pub seconds-init : goal.seconds-init
seconds-init c =
    let p = c.args.first.now in
    let l = c.args.first_labels.now in
    let at_end : c.firsts.i ≡ length p = omega arith in
    subst (λ i. KeepsLabels (EdgeOf p l i c.args.second.now c.args.second_labels.now 0) (length c.args.labels.now)
    c.firsts.labels) at_end c.firsts.invariant.0

pub returns : goal.returns
returns c =
    let p = c.args.first.now in
    let l = c.args.first_labels.now in
    let q = c.args.second.now in
    let m = c.args.second_labels.now in
    let at_end : c.seconds.j ≡ length q = omega arith in
    subst (λ j. KeepsLabels (EdgeOf p l (length p) q m j) (length c.args.labels.now) c.seconds.labels)
    at_end c.seconds.invariant
