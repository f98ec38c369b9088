use Rattle.hb_calculus.proofs.Sound.{Infers-sound, SortIs-sound, Checks-sound, Accepts-sound}
use Rattle.hb_calculus.proofs.Levels.{level-holds, level-least}
use Rattle.hb_calculus.proofs.typing_laws.inferred_type_laws.Goals as goal

pub returns-clause-inferred : goal.returns-clause-inferred
returns-clause-inferred c = λ E L G t u. Infers-sound E L

pub returns-clause-sort : goal.returns-clause-sort
returns-clause-sort c = SortIs-sound

pub returns-clause-checked : goal.returns-clause-checked
returns-clause-checked c = Checks-sound

pub returns-clause-accepted : goal.returns-clause-accepted
returns-clause-accepted c = λ E L d. Accepts-sound E L

pub returns-clause-level : goal.returns-clause-level
returns-clause-level c = λ ss k. ((λ h i s e. level-holds k ss i s e h), level-least k ss)
