use Rattle.commissioning_tests.proofs.laws.narrow_bays_are_not_wide.Goals as goal

pub returns : goal.returns
returns c d steps bay limit narrow wide =
    c.narrow_excludes_wide.ensures d steps wide.number limit narrow.all
    (narrow.narrow wide.number wide.switch wide.some wide.listed wide.of_bay) wide.too_wide
