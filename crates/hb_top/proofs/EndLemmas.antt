-- How a run that ended is told.
use Rattle.std.proofs.Common.{◌≡◌, ℕ, List, true, true≢false, Option, Some, None, inl, inr, refl, sym, ap, ◌∙◌}
use Rattle.hb_calculus.specs.Declarations.{Decl}
use Rattle.hb_top.specs.Stops.{IsTellable}
use Rattle.hb_top.specs.Report.{last_line, status_of, is_early, EndsWith, Finishes, IsWork, IsEndOf, IsOutcome}
use Rattle.hb_top.specs.declared.stop.Stop.{Stop}
use Rattle.hb_top.specs.declared.status.Status.{Status}
use Rattle.hb_top.specs.declared.status.Status.TheVariants as status

-- a status that no fault gives comes only where it was wanted
usage_wanted : (line : Option (List ℕ)) (wanted : Status) (out out' : Option (List ℕ)) → Finishes line wanted out out' status.Usage → is_early wanted ≡ true → ⊥
usage_wanted None wanted out out' h early = true≢false (sym early ∙ ap is_early (sym h.1))
usage_wanted (Some text) wanted out out' h early = true≢false (sym early ∙ ap is_early (sym h.0))

lost_wanted : (line : Option (List ℕ)) (wanted : Status) (out out' : Option (List ℕ)) → Finishes line wanted out out' status.EmitLost → is_early wanted ≡ true → ⊥
lost_wanted None wanted out out' h early = true≢false (sym early ∙ ap is_early (sym h.1))
lost_wanted (Some text) wanted out out' h early = true≢false (sym early ∙ ap is_early (sym h.0))

-- what a run that stopped so comes to, after its last line
pub told_work : (N : List (List ℕ)) (E : List Decl) (file : List ℕ) (stop : Stop) (out out' : Option (List ℕ)) (end : Status)
    → IsTellable stop → is_early (status_of stop) ≡ true → Finishes (last_line N E file stop) (status_of stop) out out' end → IsWork out' end
told_work N E file stop out out' status.Done printed early h = tt
told_work N E file stop out out' status.Refused printed early h = (stop, out, record { printed = printed; names = N; env = E; file = file; finishes = h })
told_work N E file stop out out' status.Usage printed early h = absurd (usage_wanted (last_line N E file stop) (status_of stop) out out' h early)
told_work N E file stop out out' status.SourceFault printed early h = (stop, out, record { printed = printed; names = N; env = E; file = file; finishes = h })
told_work N E file stop out out' status.SinkFault printed early h = tt
told_work N E file stop out out' status.Spent printed early h = (stop, out, record { printed = printed; names = N; env = E; file = file; finishes = h })
told_work N E file stop out out' status.NoMemory printed early h = tt
told_work N E file stop out out' status.EmitLost printed early h = absurd (lost_wanted (last_line N E file stop) (status_of stop) out out' h early)

-- what work came to is its end where no text was lost
pub same_end : (s : Status) (out : Option (List ℕ)) → IsWork out s → IsEndOf s out out s
same_end status.Done out h = (refl, refl)
same_end status.Refused out h = (refl, refl)
same_end status.Usage out h = absurd h
same_end status.SourceFault out h = (refl, refl)
same_end status.SinkFault out h = inl refl
same_end status.Spent out h = (refl, refl)
same_end status.NoMemory out h = tt
same_end status.EmitLost out h = absurd h

-- the work's last line is the run's where the run ends as the work did
same_told : (was s : Status) (mid out' : Option (List ℕ)) → was ≡ s → out' ≡ mid → IsWork mid was → IsWork out' s
same_told was s mid out' is same h = rw (sym is, same) h

pub end_outcome : (was s : Status) (out mid out' : Option (List ℕ)) → IsWork mid was → IsEndOf was mid out' s → IsOutcome out out' s
end_outcome was status.Done out mid out' h e = tt
end_outcome was status.Refused out mid out' h e = same_told was status.Refused mid out' e.0 e.1 h
end_outcome was status.Usage out mid out' h e = absurd (same_told was status.Usage mid out' e.0 e.1 h)
end_outcome was status.SourceFault out mid out' h e = same_told was status.SourceFault mid out' e.0 e.1 h
end_outcome was status.SinkFault out mid out' h e = tt
end_outcome was status.Spent out mid out' h e = same_told was status.Spent mid out' e.0 e.1 h
end_outcome was status.NoMemory out mid out' h e = tt
end_outcome was status.EmitLost out mid out' h e = tt

-- a last text of a run that is done, where texts were lost
pub lost_end : (text : List ℕ) (s : Status) (out out' : Option (List ℕ)) → EndsWith text status.EmitLost out out' s → IsEndOf status.Done out out' s
lost_end text status.Done out out' h = absurd (cc)
lost_end text status.Refused out out' h = absurd (cc)
lost_end text status.Usage out out' h = absurd (cc)
lost_end text status.SourceFault out out' h = absurd (cc)
lost_end text status.SinkFault out out' h = inr refl
lost_end text status.Spent out out' h = absurd (cc)
lost_end text status.NoMemory out out' h = tt
lost_end text status.EmitLost out out' h = refl
