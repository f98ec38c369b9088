-- Roles, one after another.
use Rattle.std.proofs.Common.{◌≡◌, ℕ, suc, ◌+◌, ◌<◌, sym, ap, ◌∙◌, arith, List, length, drop, get_or}
use Rattle.std.proofs.lemmas.List.{drop_more}
use Rattle.std.proofs.Math.Seq.{drop-length}
use Rattle.hb_tables.specs.Maps.{Maps}
use Rattle.hb_generated.specs.Entering.{enter_one}
use Rattle.hb_pack.specs.declared.roles.Role.{Role}
use Rattle.hb_pack.specs.Roles.{role, entered}

pub entered_turn : (roles : List Role) (i at next : ℕ) (d : Role) (T T' W : Maps) → i < length roles → next ≡ at + 1 → T' ≡ enter_one at (role (get_or roles i d)) T → entered at (drop i roles) T ≡ W → entered next (drop (i + 1) roles) T' ≡ W
entered_turn roles i at next d T T' W lt more made done =
    ap (λ k. entered k (drop (i + 1) roles) T') (let e : next ≡ suc at = omega (arith, more) in e)
    ∙ ap (entered (suc at) (drop (i + 1) roles)) made
    ∙ ap (λ l. entered at l T) (sym (drop_more roles i d lt))
    ∙ done

pub entered_end : (roles : List Role) (n at : ℕ) (T W : Maps) → n ≡ length roles → entered at (drop n roles) T ≡ W → T ≡ W
entered_end roles n at T W is done = ap (λ l. entered at l T) (sym (drop-length roles) ∙ ap (λ k. drop k roles) (sym is)) ∙ done
