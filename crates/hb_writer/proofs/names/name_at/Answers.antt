use Rattle.std.proofs.Common.{◌≡◌, ◌≤◌, length, arith, refl, slice_get, Some, ap, sym}
use Rattle.hb_base.specs.declared.name_id.NameId.{NameId}
use Rattle.hb_term.specs.declared.term.Term.{Term}
use Rattle.std.proofs.lemmas.Option.{slice_get-map, slice_get_read, slice_get_past}
use Rattle.hb_env.proofs.ListLemmas.{field_names_map}
use Rattle.hb_writer.proofs.names.name_at.Goals as goal

pub returns-then-at-fields : goal.returns-then-at-fields
returns-then-at-fields c =
    let fs = c.args.fields.now in
    let g : slice_get fs c.args.at ≡ Some _ = slice_get_read fs (length fs) c.args.at c.index-fields-at.result refl c.if-at-fields.true c.index-fields-at.is in
    rw (field_names_map fs, slice_get-map (λ (x : NameId × Term). x.0.0) fs c.args.at, g) (ap (λ (x : NameId × Term). Some x.0.0) (sym c.index-fields-at.is))

pub returns-else-at-fields : goal.returns-else-at-fields
returns-else-at-fields c =
    let fs = c.args.fields.now in
    let h : length fs ≤ c.args.at = omega (arith, c.if-at-fields.false) in
    rw (field_names_map fs, slice_get-map (λ (x : NameId × Term). x.0.0) fs c.args.at, slice_get_past fs c.args.at h) refl
