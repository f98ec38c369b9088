use Rattle.hb_calculus.proofs.Longer.{Step-longer, Convertible-longer, Below-longer, HasType-longer}
use Rattle.hb_calculus.proofs.LongerInference.{Infers-longer}
use Rattle.hb_calculus.proofs.environment_laws.longer_environment_laws.Goals as goal

pub returns-clause-step : goal.returns-clause-step
returns-clause-step c = λ E F t u. Step-longer E F

pub returns-clause-convertible : goal.returns-clause-convertible
returns-clause-convertible c = λ E F t u. Convertible-longer E F

pub returns-clause-below : goal.returns-clause-below
returns-clause-below c = λ E F t u. Below-longer E F

pub returns-clause-typed : goal.returns-clause-typed
returns-clause-typed c = λ E F G t u. HasType-longer E F

pub returns-clause-inferred : goal.returns-clause-inferred
returns-clause-inferred c = λ E F L G t u env g h p. Infers-longer E F env L p g h
