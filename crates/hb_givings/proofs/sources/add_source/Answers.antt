use Rattle.std.proofs.Common.{◌∷◌, [], length, sym, ap, ◌∙◌, take, arith}
use Rattle.std.proofs.lemmas.List.{take-append-le}
use Rattle.std.proofs.Math.Seq.{take-length}
use Rattle.indexmap.proofs.CallerLemmas.{insert_entry-new}
use Rattle.hb_givings.proofs.LookupLemmas.{absent, adds-one}
use Rattle.hb_givings.proofs.sources.add_source.Goals as goal

pub returns-in_ok-insert-clause-kept : goal.returns-in_ok-insert-clause-kept
returns-in_ok-insert-clause-kept c =
    let was = absent c.args.carrier c.args.m.0 c.args.at c.args.sources.now.entries c.args.gives.now (sym c.is_new.ensures ∙ c.if-is_new.true) in
    let is = c.in_ok-insert.ensures.entries ∙ insert_entry-new _ c.args.sources.now (c.args.carrier, c.args.m) c.args.at was in
    ap (take (length c.args.sources.now.entries)) is ∙ take-append-le (length c.args.sources.now.entries) c.args.sources.now.entries (((c.args.carrier, c.args.m), c.args.at) ∷ []) (omega arith) ∙ take-length c.args.sources.now.entries

pub returns-in_ok-insert-clause-added : goal.returns-in_ok-insert-clause-added
returns-in_ok-insert-clause-added c =
    let was = absent c.args.carrier c.args.m.0 c.args.at c.args.sources.now.entries c.args.gives.now (sym c.is_new.ensures ∙ c.if-is_new.true) in
    let is = c.in_ok-insert.ensures.entries ∙ insert_entry-new _ c.args.sources.now (c.args.carrier, c.args.m) c.args.at was in
    adds-one c.args.carrier c.args.m.0 c.args.at c.args.sources.now.entries c.args.gives.now _ is (sym c.has.ensures.member ∙ c.if-has.true)
