-- Refusals that are handed on.
use Rattle.std.proofs.Common.{◌≡◌, Option, None, Some, Result, Ok, Err, IfErr, ap, sym, ◌∙◌}
use Rattle.std.specs.Option.{option_map}
use Rattle.hb_env.specs.declared.refusal.Refusal.{Refusal}
use Rattle.hb_world.specs.Worlds.{opened}
use Rattle.hb_world.specs.declared.section.Section.{Section}

pub a_section : (o : Option Section) (s : Section) → o ≡ Some s → ¬ (option_map opened o ≡ None)
a_section o s e n = let h = sym (ap (option_map opened) e) ∙ n in cc

pub still_refused : {A : Type 0} (P Q : Refusal → Type 0) (r : Result A Refusal) → ((e : Refusal) → P e → Q e) → IfErr r P → IfErr r Q
still_refused P Q (Ok a) f h = tt
still_refused P Q (Err e) f h = f e h
