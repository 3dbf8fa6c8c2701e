use Rattle.contraction.specs.Answers.{Answers}
use Rattle.judge_pool.proofs.PoolLemmas.{copy_of}
use Rattle.step_graphs.proofs.letters.step_id.Goals as goal

pub returns-clause-letter : goal.returns-clause-letter
returns-clause-letter c =
    let x : Answers = c.in_ok-value.value in (
      x,
      record {
        is = c.in_ok-value.ensures.letter;
        copy =
            copy_of c.intern.new.self x x c.in_ok-id.id c.in_ok-id.ensures.same (λ n. (λ k. k, λ k. k))
            (λ view items d v s. s);
      },
    )
