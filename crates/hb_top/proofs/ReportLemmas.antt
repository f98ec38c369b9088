-- What is reported, from the work to the end of a run.
use Rattle.std.proofs.Common.{◌≡◌, ℕ, Bool, List, [], true, false, true≢false, Option, None, Some, Result, Ok, Err, IsSome, IsTrue, inl, inr, refl, sym, ap, subst, ◌∙◌}
use Rattle.std.proofs.lemmas.List.{append-nil}
use Rattle.hb_calculus.specs.Declarations.{Decl}
use Rattle.hb_io.specs.Told.{grown, Told}
use Rattle.hb_words.specs.Asked.{AsksFor}
use Rattle.hb_words.specs.Jobs.{word_of}
use Rattle.hb_words.specs.declared.job.Job.{Job}
use Rattle.hb_words.specs.declared.job.Job.TheVariants as jobs
use Rattle.hb_session.specs.State.{State}
use Rattle.hb_top.specs.Agenda.{Agenda, agenda_of}
use Rattle.hb_top.specs.Trace.{Point, Goes, GoesPart, Halts, IsAccepted, Accepts, accepted_line}
use Rattle.hb_top.specs.declared.stop.Stop.{Stop}
use Rattle.hb_top.specs.declared.stop.Stop.TheVariants.{Refused, SourceFault, SinkFault, NoMemory}
use Rattle.hb_top.proofs.RunLemmas.{is_usage}
use Rattle.hb_top.specs.Report.{usage_text, last_line, status_of, is_early, EndsWith, Finishes, IsTold, IsToldIn, IsEndOf}
use Rattle.hb_top.specs.Reported.{Kind, compiling, saving, certifying, other, GoesOrAccepts, Stopped, WorksOut, Works, Saves, Certifies, IsCut, Reports, ReportsJob, HasReported, ReportsFrom, certified_line, asked_by, is_aloud, saved_line}
use Rattle.hb_top.specs.declared.status.Status.{Status}
use Rattle.hb_top.specs.declared.status.Status.TheVariants as status

-- an early end isn't told as done
done_is_late : (line : Option (List ℕ)) (wanted : Status) (out out' : Option (List ℕ)) → Finishes line wanted out out' status.Done → is_early wanted ≡ true → ⊥
done_is_late None wanted out out' h early = true≢false (sym early ∙ ap is_early (sym h.1))
done_is_late (Some text) wanted out out' h early = true≢false (sym early ∙ ap is_early (sym h.0))

-- where the last line was written, the run is known up to it
known_to : (N : List (List ℕ)) (E : List Decl) (file : List ℕ) (stop : Stop) (F : List ℕ → Told) (A : Agenda) (a b : Point) (out out' : Option (List ℕ)) (s : Status)
    → Stopped F A a b stop → Finishes (last_line N E file stop) (status_of stop) out out' s → IsTold s → GoesOrAccepts F A a b
known_to N E file (Refused r) F A a b out out' s h f told = h
known_to N E file (SourceFault i) F A a b out out' s h f told = h
known_to N E file SinkFault F A a b out out' s h f told = absurd (subst IsTold f.1 told)
known_to N E file NoMemory F A a b out out' s h f told = absurd (subst IsTold f.1 told)

cut_at : (F : List ℕ → Told) (A : Agenda) (a b : Point) (S : State) (stop : Stop) (out' : Option (List ℕ)) (s : Status) → Stopped F A a b stop → b.state ≡ S → IsToldIn S stop b.out out' s → IsTold s → IsCut F A a S out' s
cut_at F A a b S stop out' s h same told is_told = record {
  last = b;
  went = known_to S.back.names S.env told.file stop F A a b b.out out' s h told.finishes is_told;
  state = same;
  stop = stop;
  told = told;
}

pub stopped_report : (k : Kind) (F : List ℕ → Told) (A : Agenda) (a b : Point) (S : State) (stop : Stop) (out' : Option (List ℕ)) (s : Status)
    → is_early (status_of stop) ≡ true → Stopped F A a b stop → b.state ≡ S → IsToldIn S stop b.out out' s → Reports k F A a S out' s
stopped_report k F A a b S stop out' status.Done early h same told =
    absurd (done_is_late (last_line S.back.names S.env told.file stop) (status_of stop) b.out out' told.finishes early)
stopped_report k F A a b S stop out' status.Refused early h same told = cut_at F A a b S stop out' status.Refused h same told tt
stopped_report k F A a b S stop out' status.Usage early h same told = tt
stopped_report k F A a b S stop out' status.SourceFault early h same told = cut_at F A a b S stop out' status.SourceFault h same told tt
stopped_report k F A a b S stop out' status.SinkFault early h same told = tt
stopped_report k F A a b S stop out' status.Spent early h same told = cut_at F A a b S stop out' status.Spent h same told tt
stopped_report k F A a b S stop out' status.NoMemory early h same told = tt
stopped_report k F A a b S stop out' status.EmitLost early h same told = tt

-- work that stopped is told so
pub works_stopped : (k : Kind) (F : List ℕ → Told) (A : Agenda) (a b : Point) (S : State) (stop : Stop) (out' : Option (List ℕ)) (s : Status)
    → is_early (status_of stop) ≡ true → Works k F A a b (Err stop) → b.state ≡ S → IsToldIn S stop b.out out' s → HasReported k F A a S out' s
works_stopped compiling F A a b S stop out' s early h same told = stopped_report compiling F A a b S stop out' s early h same told
works_stopped saving F A a b S stop out' s early h same told = stopped_report saving F A a b S stop out' s early h same told
works_stopped certifying F A a b S stop out' s early h same told = stopped_report certifying F A a b S stop out' s early h same told
works_stopped other F A a b S stop out' s early h same told = tt

-- work that is done is told so
pub works_done : (k : Kind) (F : List ℕ → Told) (A : Agenda) (a b : Point) → Works k F A a b (Ok (tt {0})) → HasReported k F A a b.state b.out status.Done
works_done compiling F A a b h = record { end = b; whole = h; state = refl; out = refl }
works_done saving F A a b h = record { end = b; whole = h; state = refl; out = refl }
works_done certifying F A a b h = record { end = b; whole = h; state = refl; out = refl }
works_done other F A a b h = tt

moved : (k : Kind) (F : List ℕ → Told) (A : Agenda) (a : Point) (S : State) (was s : Status) (mid out' : Option (List ℕ)) → was ≡ s → out' ≡ mid → Reports k F A a S mid was → Reports k F A a S out' s
moved k F A a S was s mid out' is same h = subst (λ o. Reports k F A a S o s) (sym same) (subst (λ t. Reports k F A a S mid t) is h)

reports_end : (k : Kind) (F : List ℕ → Told) (A : Agenda) (a : Point) (S : State) (was s : Status) (mid out' : Option (List ℕ)) → Reports k F A a S mid was → IsEndOf was mid out' s → Reports k F A a S out' s
reports_end k F A a S was status.Done mid out' h e = moved k F A a S was status.Done mid out' e.0 e.1 h
reports_end k F A a S was status.Refused mid out' h e = moved k F A a S was status.Refused mid out' e.0 e.1 h
reports_end k F A a S was status.Usage mid out' h e = tt
reports_end k F A a S was status.SourceFault mid out' h e = moved k F A a S was status.SourceFault mid out' e.0 e.1 h
reports_end k F A a S was status.SinkFault mid out' h e = tt
reports_end k F A a S was status.Spent mid out' h e = moved k F A a S was status.Spent mid out' e.0 e.1 h
reports_end k F A a S was status.NoMemory mid out' h e = tt
reports_end k F A a S was status.EmitLost mid out' h e = tt

-- what was reported stays so at the end of the run
pub report_end : (k : Kind) (F : List ℕ → Told) (A : Agenda) (a : Point) (S : State) (was s : Status) (mid out' : Option (List ℕ)) → HasReported k F A a S mid was → IsEndOf was mid out' s → HasReported k F A a S out' s
report_end compiling F A a S was s mid out' h e = reports_end compiling F A a S was s mid out' h e
report_end saving F A a S was s mid out' h e = reports_end saving F A a S was s mid out' h e
report_end certifying F A a S was s mid out' h e = reports_end certifying F A a S was s mid out' h e
report_end other F A a S was s mid out' h e = tt

-- a fault before the count of lines
pub halted : (F : List ℕ → Told) (A : Agenda) (a b : Point) (stop : Stop) → Halts F A a b stop → Stopped F A a b stop
halted F A a b (Refused r) h = inl h
halted F A a b (SourceFault i) h = inl h
halted F A a b SinkFault h = tt
halted F A a b NoMemory h = tt

grown_nothing : (out : Option (List ℕ)) → out ≡ grown out []
grown_nothing None = refl
grown_nothing (Some bytes) = ap Some (sym (append-nil bytes))

-- files that were compiled, with nothing behind
pub compiled : (F : List ℕ → Told) (A : Agenda) (a b : Point) (r : Result (Unit {0}) Stop) → Accepts F A a b r → WorksOut compiling F A a b r
compiled F A a b (Ok x) h = record { done = b; accepted = h; state = refl; last = []; behind = refl; out = grown_nothing b.out }
compiled F A a b (Err stop) h = halted F A a b stop h

-- and saved afterwards
pub saved_behind : (F : List ℕ → Told) (A : Agenda) (a m b : Point) (lib : List ℕ) (r : Result (Unit {0}) Stop) → IsAccepted F A a m → b.state ≡ m.state → b.lines ≡ m.lines → Saves m.out b.out (saved_line lib) r → WorksOut saving F A a b r
saved_behind F A a m b lib (Ok x) h same lines s = record { done = m; accepted = h; state = same; last = saved_line lib; behind = (lib, refl); out = s }
saved_behind F A a m b lib (Err (Refused r)) h same lines s = absurd s
saved_behind F A a m b lib (Err (SourceFault i)) h same lines s =
    inr (record { whole = h.whole; went = h.went; state = same ∙ h.state; lines = lines ∙ h.lines; out = s ∙ h.out })
saved_behind F A a m b lib (Err SinkFault) h same lines s = tt
saved_behind F A a m b lib (Err NoMemory) h same lines s = tt

-- and certified afterwards
pub certified_behind : (F : List ℕ → Told) (A : Agenda) (a m b : Point) (cert : List ℕ) (r : Result (Unit {0}) Stop) → IsAccepted F A a m → b.state ≡ m.state → b.lines ≡ m.lines → Certifies m.out b.out cert r → WorksOut certifying F A a b r
certified_behind F A a m b cert (Ok x) h same lines (decls, n, out) = record { done = m; accepted = h; state = same; last = _; behind = (cert, decls, n, refl); out = out }
certified_behind F A a m b cert (Err (Refused r)) h same lines s =
    inr (record { whole = h.whole; went = h.went; state = same ∙ h.state; lines = lines ∙ h.lines; out = s ∙ h.out })
certified_behind F A a m b cert (Err (SourceFault i)) h same lines s =
    inr (record { whole = h.whole; went = h.went; state = same ∙ h.state; lines = lines ∙ h.lines; out = s ∙ h.out })
certified_behind F A a m b cert (Err SinkFault) h same lines s = tt
certified_behind F A a m b cert (Err NoMemory) h same lines s = tt

-- where the words ask for nothing, and where memory was wanting, nothing is said
pub usage_report : (words : List (List ℕ)) (F : List ℕ → Told) (a : Point) (S : State) (out out' : Option (List ℕ)) (s : Status)
    → EndsWith usage_text status.Usage out out' s → ReportsFrom words F a S out' s
usage_report words F a S out out' status.Done h = absurd (true≢false (sym (ap is_usage h.0)))
usage_report words F a S out out' status.Refused h = absurd (true≢false (sym (ap is_usage h.0)))
usage_report words F a S out out' status.Usage h = tt
usage_report words F a S out out' status.SourceFault h = absurd (true≢false (sym (ap is_usage h.0)))
usage_report words F a S out out' status.SinkFault h = tt
usage_report words F a S out out' status.Spent h = absurd (true≢false (sym (ap is_usage h.0)))
usage_report words F a S out out' status.NoMemory h = tt
usage_report words F a S out out' status.EmitLost h = absurd (true≢false (sym (ap is_usage h.0)))

-- what a job reports, its words do
pub job_report : (words : List (List ℕ)) (job : Job) (F : List ℕ → Told) (a : Point) (S : State) (out' : Option (List ℕ)) (s : Status)
    → AsksFor words job → HasReported (asked_by (word_of job)) F (agenda_of job) a S out' s → ReportsFrom words F a S out' s
job_report words job F a S out' status.Done asked h = record { job = job; asked = asked; reported = h }
job_report words job F a S out' status.Refused asked h = record { job = job; asked = asked; reported = h }
job_report words job F a S out' status.Usage asked h = tt
job_report words job F a S out' status.SourceFault asked h = record { job = job; asked = asked; reported = h }
job_report words job F a S out' status.SinkFault asked h = tt
job_report words job F a S out' status.Spent asked h = record { job = job; asked = asked; reported = h }
job_report words job F a S out' status.NoMemory asked h = tt
job_report words job F a S out' status.EmitLost asked h = record { job = job; asked = asked; reported = h }

pub kind_memory : (k : Kind) (F : List ℕ → Told) (A : Agenda) (a : Point) (S : State) (out' : Option (List ℕ)) → HasReported k F A a S out' status.NoMemory
kind_memory compiling F A a S out' = tt
kind_memory saving F A a S out' = tt
kind_memory certifying F A a S out' = tt
kind_memory other F A a S out' = tt

-- want of memory before the last line
pub lost_line : (line : Option (List ℕ)) (wanted : Status) (out : Option (List ℕ)) → IsSome line → Finishes line wanted out out status.NoMemory
lost_line None wanted out h = absurd (true≢false (sym h))
lost_line (Some text) wanted out h = (0, grown_nothing out)

-- a core text that was added, with its number told
pub accepted_core : (F : List ℕ → Told) (A : Agenda) (a m b : Point) → Goes F A a [] m → b.state ≡ m.state → b.lines ≡ m.lines → b.out ≡ grown m.out (accepted_line m.lines) → WorksOut compiling F A a b (Ok (tt {0}))
accepted_core F A a m b g same lines out =
    compiled F A a b (Ok (tt {0})) (record { whole = m; went = g; state = same; lines = lines; out = out })

-- a certificate that was saved under its line
pub saved_certifies : (out out' : Option (List ℕ)) (cert line : List ℕ) (decls lines : ℕ) (r : Result (Unit {0}) Stop) → line ≡ certified_line cert decls lines → Saves out out' line r → Certifies out out' cert r
saved_certifies out out' cert line decls lines (Ok x) is h = (decls, lines, subst (λ l. out' ≡ grown out l) is h)
saved_certifies out out' cert line decls lines (Err (Refused r)) is h = absurd h
saved_certifies out out' cert line decls lines (Err (SourceFault i)) is h = h
saved_certifies out out' cert line decls lines (Err SinkFault) is h = tt
saved_certifies out out' cert line decls lines (Err NoMemory) is h = tt

-- what is told of work that is aloud is told of all work, as nothing is told of other work
pub worked : (job : Job) (F : List ℕ → Told) (A : Agenda) (a b : Point) (r : Result (Unit {0}) Stop)
    → (IsTrue (is_aloud job) → Works (asked_by (word_of job)) F A a b r) → Works (asked_by (word_of job)) F A a b r
worked (jobs.Compile steps rocq listing files) F A a b r h = h refl
worked (jobs.Save steps lib files) F A a b r h = h refl
worked (jobs.Core steps file) F A a b r h = h refl
worked (jobs.Refactor steps old new clients) F A a b r h = tt
worked (jobs.Sample number size) F A a b r h = tt
worked (jobs.Show file) F A a b r h = tt
worked (jobs.Certify steps cert files) F A a b r h = h refl
worked (jobs.Verify cert) F A a b r h = tt

-- nothing is told of a comparison
pub compared : (job : Job) (steps : _) (old new : _) (clients : _) (F : List ℕ → Told) (A : Agenda) (a : Point) (S : State) (out' : Option (List ℕ)) (s : Status)
    → job ≡ jobs.Refactor steps old new clients → HasReported (asked_by (word_of job)) F A a S out' s
compared job steps old new clients F A a S out' s is = rw is tt

-- a device's fault
abbrev pub is_fault : Status → Bool
is_fault status.SourceFault = true
is_fault status.SinkFault = true
is_fault _ = false
