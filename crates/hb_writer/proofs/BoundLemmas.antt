-- Names of variables.
use Rattle.std.proofs.Common.{◌≡◌, ◌<◌, ℕ, length, slice_index_or, List, [], ◌∷◌, Option, Some, None, slice_get, map, option_map, refl, ap, sym, ◌∙◌}
use Rattle.std.proofs.lemmas.Option.{slice_get-map, slice_get-get_or}
use Rattle.hb_base.specs.declared.name_id.NameId.{NameId}
use Rattle.hb_writer.specs.Text.{bound_names, bound_name, at_bound}

pub bound_found : (bs : List (Option NameId)) (at : ℕ) (b : Option NameId) → slice_get bs at ≡ Some b → option_map (λ n. n.0) b ≡ bound_name (bound_names bs) at
bound_found [] at b h = absurd (cc)
bound_found (c ∷ cs) at b h = sym (ap at_bound (slice_get-map (option_map (λ (n : NameId). n.0)) (c ∷ cs) at ∙ ap (option_map (option_map (λ (n : NameId). n.0))) h))

pub bound_past : (bs : List (Option NameId)) (at : ℕ) → slice_get bs at ≡ None → None ≡ bound_name (bound_names bs) at
bound_past [] at h = refl
bound_past (c ∷ cs) at h = sym (ap at_bound (slice_get-map (option_map (λ (n : NameId). n.0)) (c ∷ cs) at ∙ ap (option_map (option_map (λ (n : NameId). n.0))) h))

pub bound_read : (bs : List (Option NameId)) (at : ℕ) → at < length bs → option_map (λ n. n.0) (slice_index_or bs at None) ≡ bound_name (bound_names bs) at
bound_read bs at h = bound_found bs at (slice_index_or bs at None) (slice_get-get_or bs at None h)
