use Rattle.release_dependence.proofs.ExchangeLemmas.{breaks_to, turns_to, differ_to}
use Rattle.release_dependence.proofs.laws.exchange_keeps_answers.Goals as goal

pub returns-clause-answers : goal.returns-clause-answers
returns-clause-answers c d h op other v w answer o e b = breaks_to d h op other o v w e answer b

pub returns-clause-turns : goal.returns-clause-turns
returns-clause-turns c d h op other rule v w x y o e f t = turns_to d h op other o rule v w x y e f t

pub returns-clause-differ : goal.returns-clause-differ
returns-clause-differ c d h s v w x y lx ly e f t = differ_to d h s v w x y lx ly e f t
