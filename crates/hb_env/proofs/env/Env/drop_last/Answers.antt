use Rattle.std.proofs.Common.{◌≡◌, ◌+◌, ◌-◌, ◌++◌, ◌∷◌, [], length, take, drop, sym, ap, ◌∙◌, rules, arith}
use Rattle.std.proofs.lemmas.List.{map-append, get_or_read}
use Rattle.std.proofs.Math.ListN.{length-map}
use Rattle.hb_calculus.specs.Declarations.{names_of, node_count, all_nodes, terms_of}
use Rattle.hb_env.specs.Plain.{plain, plains}
use Rattle.hb_env.specs.Table.{removed}
use Rattle.hb_env.proofs.KeptLemmas.{kept_popped, seam, nodes_push, last_item}
use Rattle.hb_env.proofs.env.Env.drop_last.Goals as goal

pub overflow_sub-self : goal.overflow_sub-self
overflow_sub-self c =
    let items = c.self.inside.decls.items in
    let i = c.len-last.result - 1 in
    let d = c.index-2.result.now in
    let v : length (plains items) ≡ length c.args.self.now = ap length c.self.view_is in
    let l : length items ≡ i + 1 = omega (arith, c.requires, c.len-last.ensures, c.self.inside.decls.ok, length-map items plain) in
    let e : plains items ≡ plains (take i items) ++ plain d ∷ [] = ap plains (last_item items i d l c.index-2.ensures) ∙ map-append plain (take i items) (d ∷ []) in
    omega (arith, c.nodes.ensures, c.self.invariant.counted, ap node_count e, nodes_push (plains (take i items)) (plain d))

pub invariant_of-self : goal.invariant_of-self
invariant_of-self c =
    let items = c.self.inside.decls.items in
    let table = c.self.inside.table.items in
    let i = c.len-last.result - 1 in
    let d = c.index-2.result.now in
    let v : length (plains items) ≡ length c.args.self.now = ap length c.self.view_is in
    let l : length items ≡ i + 1 = omega (arith, c.requires, c.len-last.ensures, c.self.inside.decls.ok, length-map items plain) in
    let same : c.index.result.now ≡ d = get_or_read items i c.index.result.now (omega (arith, l)) c.index.ensures d ∙ sym c.index-2.ensures in
    let e : plains items ≡ plains (take i items) ++ plain d ∷ [] = ap plains (last_item items i d l c.index-2.ensures) ∙ map-append plain (take i items) (d ∷ []) in
    let old : c.deref_mut.result.now ≡ table = search rules in
    let now : c.remove.new.table ≡ removed (names_of (plain d)) (length (names_of (plain d))) table = rw (← old, ← same) c.remove.ensures in
    let m : length c.remove.new.table ≡ length c.deref_mut.result.now = search rules in
    let f : c.self.inside.table.len ≡ length c.remove.new.table = omega (arith, m, ap length old, c.self.inside.table.ok) in
    let n : c.nodes.result ≡ all_nodes (terms_of (plain d)) = omega (arith, c.nodes.ensures, c.self.invariant.counted, c.self.invariant.valid.few_nodes, ap node_count e, nodes_push (plains (take i items)) (plain d)) in
    rw
    (c.truncate.ensures.items, seam c.self.inside.table.len (drop (length c.remove.new.table) table) c.remove.new.table f, n)
    (kept_popped (plains items) (plains (take i items)) (plain d) table c.remove.new.table c.self.inside.nodes c.self.invariant e now)
