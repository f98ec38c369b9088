use Rattle.std.proofs.Common.{◌≡◌, ◌<◌, ◌≤◌, ◌++◌, ◌∷◌, [], List, length, drop, get_or, sym, ap, ◌∙◌, rules, arith}
use Rattle.std.proofs.lemmas.List.{map-append, get_or_push}
use Rattle.std.proofs.Math.ListN.{length-map}
use Rattle.hb_calculus.specs.Declarations.{names, names_of, Distinct, node_count, fields_of}
use Rattle.hb_env.specs.declared.decl.Decl.{Decl}
use Rattle.hb_env.specs.Plain.{plain, plains}
use Rattle.hb_env.specs.Table.{IsTable, entered}
use Rattle.hb_env.proofs.KeptLemmas.{passed_is, kept_pushed, seam, nodes_push}
use Rattle.hb_env.proofs.env.Env.push.Goals as goal

pub returns-in-Some-passed-clause-cause : goal.returns-in-Some-passed-clause-cause
returns-in-Some-passed-clause-cause c =
    let E = plains c.self.inside.decls.items in
    let d = plain c.args.decl in
    let t : IsTable E c.deref.result.now = rw c.deref.ensures.value c.self.invariant.found in
    let u : Distinct (names E ++ names_of d) = c.in_default.ensures E t c.self.invariant.valid.distinct in
    let n : c.len.result ≡ length E = omega (arith, c.len.ensures, length-map c.self.inside.decls.items plain, c.self.inside.decls.ok) in
    let k : 40000000 < c.saturating_add-nodes.result → 40000000 < node_count (E ++ d ∷ []) = λ h. omega (arith, h, c.saturating_add-nodes.ensures, c.nodes.ensures, c.self.invariant.counted, nodes_push E d) in
    rw
    (← c.self.view_is)
    (u, passed_is E d c.len.result c.field_count.result c.saturating_add-nodes.result c.in-Some-passed.count n c.field_count.ensures k c.in-Some-passed.ensures)

pub invariant_of-self-2 : goal.invariant_of-self-2
invariant_of-self-2 c =
    let items = c.self.inside.decls.items in
    let E = plains items in
    let d = plain c.args.decl in
    let e : c.push.new.self.items ≡ items ++ c.args.decl ∷ [] = search rules in
    let t : IsTable E c.deref.result.now = rw c.deref.ensures.value c.self.invariant.found in
    let u : Distinct (names E ++ names_of d) = c.in_default.ensures E t c.self.invariant.valid.distinct in
    let n : c.len.result ≡ length items = omega (arith, c.len.ensures, c.self.inside.decls.ok) in
    let m : c.len-at.result ≡ length items = omega (arith, c.len-at.ensures, c.self.inside.decls.ok) in
    let i : c.index.result.now ≡ c.args.decl = c.index.ensures ∙ ap (λ (xs : List Decl). get_or xs c.len-at.result c.index.result.now) e ∙ get_or_push items c.args.decl c.index.result.now c.len-at.result (sym m) in
    let k : c.saturating_add-nodes.result ≡ node_count (E ++ d ∷ []) = omega (arith, c.saturating_add-nodes.ensures, c.nodes.ensures, c.self.invariant.counted, nodes_push E d, c.in_default-passed.ensures) in
    let p : plains c.push.new.self.items ≡ E ++ d ∷ [] = ap plains e ∙ map-append plain items (c.args.decl ∷ []) in
    let table = c.self.inside.table.items in
    let old : c.deref_mut.result.now ≡ table = search rules in
    let now : c.enter.new.table ≡ entered c.len-at.result (names_of (plain c.index.result.now)) (length (names_of (plain c.index.result.now))) table = rw (← old) c.enter.ensures.entered in
    let j : length c.enter.new.table ≡ length c.deref_mut.result.now = search rules in
    let f : c.self.inside.table.len ≡ length c.enter.new.table = omega (arith, j, ap length old, c.self.inside.table.ok) in
    let w : c.len-at.result ≡ length E = omega (arith, m, length-map items plain) in
    let b : length E < 262144 = omega (arith, n, length-map items plain, c.in_default-passed.ensures) in
    let x : fields_of d ≤ 255 = omega (arith, c.field_count.ensures, c.in_default-passed.ensures) in
    let y : c.saturating_add-nodes.result ≤ 40000000 = omega (arith, c.in_default-passed.ensures) in
    rw
    (seam c.self.inside.table.len (drop (length c.enter.new.table) table) c.enter.new.table f)
    (kept_pushed E (plains c.push.new.self.items) d (plain c.index.result.now) table c.enter.new.table c.self.inside.nodes c.saturating_add-nodes.result c.len-at.result c.self.invariant p (ap plain i) w now k u c.requires b x y)
