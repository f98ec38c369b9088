use Rattle.std.proofs.Common.{◌≡◌, length, ap, sym, ◌∙◌}
use Rattle.std.proofs.lemmas.List.{length-map}
use Rattle.hb_env.specs.Plain.{plains}
use Rattle.hb_items.specs.Comparing.{other_decl}
use Rattle.hb_items.proofs.compare.not_made.Goals as goal

pub returns-then-len-made-clause-other : goal.returns-then-len-made-clause-other
returns-then-len-made-clause-other c =
    let d = c.deref.ensures in
    let n : length c.args.entry.now.decls.items ≡ length c.args.made.now = ap length (sym d.value) ∙ d.len ∙ sym c.len.ensures ∙ c.if-len-made.true in
    let e : length (plains c.args.entry.now.decls.items) ≡ length (plains c.args.made.now) = simp length-map n in
    let o = rw d.value at c.in-Some.ensures.other in
    other_decl c.in-Some.at e (o.within e) (o.before e) (o.other e) c.place_at.ensures
