-- All declarations of a structure.
use Rattle.std.proofs.Common.{◌≡◌, ◌∙◌, sym, ap, ℕ, suc, List, [], ◌∷◌, ◌++◌, length}
use Rattle.std.proofs.lemmas.List.{map-append}
use Rattle.hb_sets.specs.Set.{Set}
use Rattle.hb_calculus.specs.Declarations.{Decl}
use Rattle.hb_env.specs.declared.decl.Decl as env
use Rattle.hb_env.specs.Plain.{plain, plains}
use Rattle.hb_hier.specs.Hierarchy.{Hierarchy}
use Rattle.hb_tables.specs.Maps.{Maps}
use Rattle.hb_paths.specs.Packs.{Shape}
use Rattle.hb_pack.specs.Packing.{IsOver}
use Rattle.hb_generated.specs.State.{State, Made, decls}
use Rattle.hb_generated.specs.Reading.{listed}
use Rattle.hb_generated.specs.Generating.{class_record, pack_record, operations, coercions, new_shape, gen_shape}

module _ (N : List (List ℕ)) (S : State) (n : ℕ) (x : Set) where
  pub shape_made : (class pack : env.Decl) (os cs items : List env.Decl) → items ≡ ((class ∷ pack ∷ []) ++ os) ++ cs
      → plain class ≡ class_record N S.env S.hier n (listed x) → plain pack ≡ pack_record N S.env S.hier n (listed x)
      → plains os ≡ decls (operations S.env S.hier (length S.hier.structures) (new_shape S x) (listed x))
      → plains cs ≡ decls (coercions N S.hier S.tables (length S.hier.structures) n (new_shape S x) x 0 S.hier.structures)
      → plains items ≡ decls (gen_shape N S n x)
  shape_made class pack os cs items is is_class is_pack is_os is_cs =
      let front = class_record N S.env S.hier n (listed x) ∷ pack_record N S.env S.hier n (listed x) ∷ [] in
      ap plains is
      ∙ map-append plain ((class ∷ pack ∷ []) ++ os) cs
      ∙ ap (λ l. l ++ plains cs) (map-append plain (class ∷ pack ∷ []) os)
      ∙ ap (λ d. ((d ∷ plain pack ∷ []) ++ plains os) ++ plains cs) is_class
      ∙ ap (λ d. ((class_record N S.env S.hier n (listed x) ∷ d ∷ []) ++ plains os) ++ plains cs) is_pack
      ∙ ap (λ l. (front ++ l) ++ plains cs) is_os
      ∙ ap (λ l. (front ++ decls (operations S.env S.hier (length S.hier.structures) (new_shape S x) (listed x))) ++ l) is_cs
      ∙ ap (λ l. front ++ l) (sym (map-append (λ (d : Made). d.1) (operations S.env S.hier (length S.hier.structures) (new_shape S x) (listed x)) (coercions N S.hier S.tables (length S.hier.structures) n (new_shape S x) x 0 S.hier.structures)))

-- the layout of the new structure
pub layout_is : (S : State) (x : Set) (E : List Decl) (a b : ℕ) (ms : List ℕ) → S.env ≡ E → a ≡ length E → b ≡ suc a → ms ≡ listed x → (record { class = a; pack = b; mixins = ms }) ≡ new_shape S x
layout_is S x E a b ms is e f g =
    let p : a ≡ length S.env = e ∙ ap length (sym is) in
    let q : b ≡ suc (length S.env) = f ∙ ap suc p in
    λ i. record { class = p i; pack = q i; mixins = g i }

-- the same where the parts are named by themselves
pub shape_over : (N : List (List ℕ)) (S : State) (n : ℕ) (x : Set) (E : List Decl) (h : Hierarchy) (T : Maps) (ms : List ℕ) (L : Shape) (class pack : env.Decl) (os cs items : List env.Decl) → IsOver S E h T → ms ≡ listed x → L ≡ new_shape S x
    → items ≡ ((class ∷ pack ∷ []) ++ os) ++ cs
    → plain class ≡ class_record N E h n ms → plain pack ≡ pack_record N E h n ms
    → ((s : ℕ) → plains os ≡ decls (operations E h s L ms))
    → ((s : ℕ) → plains cs ≡ decls (coercions N h T s n L x 0 h.structures))
    → plains items ≡ decls (gen_shape N S n x)
shape_over N S n x E h T ms L class pack os cs items over is_ms is_L is is_class is_pack is_os is_cs =
    let s = length S.hier.structures in
    shape_made N S n x class pack os cs items is
    (is_class ∙ ap (λ e. class_record N e h n ms) (sym over.env) ∙ ap (λ k. class_record N S.env k n ms) (sym over.hier) ∙ ap (λ l. class_record N S.env S.hier n l) is_ms)
    (is_pack ∙ ap (λ e. pack_record N e h n ms) (sym over.env) ∙ ap (λ k. pack_record N S.env k n ms) (sym over.hier) ∙ ap (λ l. pack_record N S.env S.hier n l) is_ms)
    (is_os s ∙ ap (λ e. decls (operations e h s L ms)) (sym over.env) ∙ ap (λ k. decls (operations S.env k s L ms)) (sym over.hier) ∙ ap (λ l. decls (operations S.env S.hier s l ms)) is_L ∙ ap (λ l. decls (operations S.env S.hier s (new_shape S x) l)) is_ms)
    (is_cs s ∙ ap (λ t. decls (coercions N h t s n L x 0 h.structures)) (sym over.tables) ∙ ap (λ k. decls (coercions N k S.tables s n L x 0 k.structures)) (sym over.hier) ∙ ap (λ l. decls (coercions N S.hier S.tables s n l x 0 S.hier.structures)) is_L)
