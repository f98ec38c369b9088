use Rattle.hb_calculus.proofs.WellScoped.{well_formed-empty, well_formed-prefix, well_formed-push, well_formed-typed, well_formed-scoped, well_formed-declared, well_formed-closed}
use Rattle.hb_calculus.proofs.environment_laws.well_formed_laws.Goals as goal

pub returns-clause-empty : goal.returns-clause-empty
returns-clause-empty c = well_formed-empty

pub returns-clause-prefix : goal.returns-clause-prefix
returns-clause-prefix c = well_formed-prefix

pub returns-clause-push : goal.returns-clause-push
returns-clause-push c = well_formed-push

pub returns-clause-settled : goal.returns-clause-settled
returns-clause-settled c =
    λ E w n d e. record { typed = well_formed-typed E w n d e; scoped = well_formed-scoped E w n d e }

pub returns-clause-declared : goal.returns-clause-declared
returns-clause-declared c = well_formed-declared

pub returns-clause-closed : goal.returns-clause-closed
returns-clause-closed c = well_formed-closed
