-- How a run ends where its words ask for nothing, and where its work's end is the run's.
use Rattle.std.proofs.Common.{◌≡◌, ℕ, List, [], Bool, true, false, true≢false, Option, refl, sym, ap}
use Rattle.hb_io.specs.Told.{Told}
use Rattle.hb_top.specs.Report.{usage_text, EndsWith, IsEndOf, IsOutcome}
use Rattle.hb_top.specs.Stays.{OthersStay, SourcesStay}
use Rattle.hb_top.specs.declared.status.Status.{Status}
use Rattle.hb_top.specs.declared.status.Status.TheVariants as status

abbrev pub is_usage : Status → Bool
is_usage status.Usage = true
is_usage _ = false

-- the usage text is what a run tells whose words ask for nothing
pub usage_outcome : (s : Status) (out out' : Option (List ℕ)) → EndsWith usage_text status.Usage out out' s → IsOutcome out out' s
usage_outcome status.Done out out' h = tt
usage_outcome status.Refused out out' h = absurd (true≢false (sym (ap is_usage h.0)))
usage_outcome status.Usage out out' h = h.1
usage_outcome status.SourceFault out out' h = absurd (true≢false (sym (ap is_usage h.0)))
usage_outcome status.SinkFault out out' h = tt
usage_outcome status.Spent out out' h = absurd (true≢false (sym (ap is_usage h.0)))
usage_outcome status.NoMemory out out' h = tt
usage_outcome status.EmitLost out out' h = tt

-- and it reads no file
pub usage_reads_nothing : (s : Status) (out out' : Option (List ℕ)) → EndsWith usage_text status.Usage out out' s → s ≡ status.SourceFault → ⊥
usage_reads_nothing status.SourceFault out out' h is = true≢false (sym (ap is_usage h.0))
usage_reads_nothing status.Done out out' h is = absurd (cc)
usage_reads_nothing status.Refused out out' h is = absurd (cc)
usage_reads_nothing status.Usage out out' h is = absurd (cc)
usage_reads_nothing status.SinkFault out out' h is = absurd (cc)
usage_reads_nothing status.Spent out out' h is = absurd (cc)
usage_reads_nothing status.NoMemory out out' h is = absurd (cc)
usage_reads_nothing status.EmitLost out out' h is = absurd (cc)

-- a run that ends by its depot had work that did
pub source_end : (was s : Status) (out out' : Option (List ℕ)) → IsEndOf was out out' s → s ≡ status.SourceFault → was ≡ status.SourceFault
source_end was status.SourceFault out out' h is = h.0
source_end was status.Done out out' h is = absurd (cc)
source_end was status.Refused out out' h is = absurd (cc)
source_end was status.Usage out out' h is = absurd (cc)
source_end was status.SinkFault out out' h is = absurd (cc)
source_end was status.Spent out out' h is = absurd (cc)
source_end was status.NoMemory out out' h is = absurd (cc)
source_end was status.EmitLost out out' h is = absurd (cc)

-- where no file is touched, all stay
pub no_file_changes : (files : List ℕ → Told) → (name : List ℕ) × OthersStay name files files
no_file_changes files = ([], λ n other. refl)

pub no_source_changes : (files : List ℕ → Told) → SourcesStay files files
no_source_changes files = λ n no_lib no_cert. refl
