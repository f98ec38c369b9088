-- Arguments and needs, one after another.
use Rattle.std.proofs.Common.{◌≡◌, ℕ, zero, suc, ◌+◌, ◌<◌, min, refl, sym, ap, ◌∙◌, arith, List, [], ◌∷◌, ◌++◌, length, map, take, drop, get_or, Option, None, append_assoc, append-nil, length-drop}
use Rattle.std.specs.Option.{option_map}
use Rattle.std.proofs.lemmas.List.{map-append, map_more, drop_more}
use Rattle.std.proofs.Math.Seq.{take-length}
use Rattle.hb_order.specs.declared.ids.StructId.{StructId}
use Rattle.hb_tree.specs.Tree.{Tree}
use Rattle.hb_term.specs.declared.term.Term.{Term}
use Rattle.hb_term.specs.Meaning.{tree}
use Rattle.hb_env.specs.Plain.{trees}
use Rattle.hb_paths.specs.Packs.{Shape}
use Rattle.hb_paths.specs.Carriers.{brought, all_brought, nones}
use Rattle.hb_generated.specs.Reading.{numbers, below_from}

pub map_map : {X Y Z : Type 0} (f : Y → Z) (g : X → Y) (xs : List X) → map f (map g xs) ≡ map (λ x. f (g x)) xs
map_map f g [] = refl
map_map f g (x ∷ xs) = ap (λ l. f (g x) ∷ l) (map_map f g xs)

pub below_suc : (i n : ℕ) → below_from i (suc n) ≡ below_from i n ++ (i + n) ∷ []
below_suc i zero = ap (λ k. k ∷ []) (let e : i ≡ i + zero = omega arith in e)
below_suc i (suc n) =
    let e : suc i + n ≡ i + suc n = omega arith in
    ap (λ l. i ∷ l) (below_suc (suc i) n ∙ ap (λ k. below_from (suc i) n ++ k ∷ []) e)

pub below_more : (i n : ℕ) → below_from i (n + 1) ≡ below_from i n ++ (i + n) ∷ []
below_more i n = ap (below_from i) (let e : n + 1 ≡ suc n = omega arith in e) ∙ below_suc i n

-- needs, one after another
pub numbers_turn : (f : ℕ → Option ℕ) (done : List (Option StructId)) (i : ℕ) (s : Option StructId) → option_map (λ s. s.0) s ≡ f i → numbers done ≡ map f (below_from 0 i) → numbers (done ++ s ∷ []) ≡ map f (below_from 0 (i + 1))
numbers_turn f done i s e is =
    map-append (λ (b : Option StructId). option_map (λ s. s.0) b) done (s ∷ [])
    ∙ ap (λ l. l ++ option_map (λ s. s.0) s ∷ []) is
    ∙ ap (λ k. map f (below_from 0 i) ++ k ∷ []) e
    ∙ sym (map-append f (below_from 0 i) (i ∷ []))
    ∙ ap (λ k. map f (below_from 0 i ++ k ∷ [])) (let e : i ≡ 0 + i = omega arith in e)
    ∙ ap (map f) (sym (below_more 0 i))

-- nothing, as often
pub nones_turn : (asked done : List (Option StructId)) (i : ℕ) → i < length asked → numbers done ≡ map (λ b. None) (take i asked) → numbers (done ++ None ∷ []) ≡ map (λ b. None) (take (i + 1) asked)
nones_turn asked done i lt is =
    map-append (λ (b : Option StructId). option_map (λ s. s.0) b) done (None ∷ [])
    ∙ ap (λ l. l ++ None ∷ []) is
    ∙ sym (map_more (λ (b : Option StructId). None) asked i None lt)

pub nones_end : (asked : List (Option StructId)) (done : List (Option ℕ)) (n : ℕ) → n ≡ length asked → done ≡ map (λ b. None) (take n asked) → done ≡ nones (numbers asked)
nones_end asked done n e is =
    is ∙ ap (λ k. map (λ (b : Option StructId). None) (take k asked)) e ∙ ap (map (λ (b : Option StructId). None)) (take-length asked)
    ∙ sym (map_map (λ (b : Option ℕ). None) (λ (b : Option StructId). option_map (λ s. s.0) b) asked)

-- types of arguments, one after another
pub types_turn : (f : Option ℕ → Tree) (asked : List (Option StructId)) (done : List Term) (i : ℕ) (t : Term) → i < length asked → tree t ≡ f (option_map (λ s. s.0) (get_or asked i None)) → trees done ≡ map (λ b. f (option_map (λ s. s.0) b)) (take i asked) → trees (done ++ t ∷ []) ≡ map (λ b. f (option_map (λ s. s.0) b)) (take (i + 1) asked)
types_turn f asked done i t lt e is =
    map-append tree done (t ∷ [])
    ∙ ap (λ l. l ++ tree t ∷ []) is
    ∙ ap (λ k. map (λ b. f (option_map (λ s. s.0) b)) (take i asked) ++ k ∷ []) e
    ∙ sym (map_more (λ b. f (option_map (λ s. s.0) b)) asked i None lt)

pub types_end : (f : Option ℕ → Tree) (asked : List (Option StructId)) (done : List Tree) (n : ℕ) → n ≡ length asked → done ≡ map (λ b. f (option_map (λ s. s.0) b)) (take n asked) → done ≡ map f (numbers asked)
types_end f asked done n e is =
    is ∙ ap (λ k. map (λ b. f (option_map (λ s. s.0) b)) (take k asked)) e ∙ ap (map (λ b. f (option_map (λ s. s.0) b))) (take-length asked)
    ∙ sym (map_map f (λ (b : Option StructId). option_map (λ s. s.0) b) asked)

module _ (shape : ℕ → Shape) (coercion : ℕ → ℕ → ℕ) where
  -- what is done, and what is left, are the whole
  abbrev pub IsRest : List (Option StructId) → List (Option StructId) → List Term → List Tree → ℕ → Type 0
  IsRest us ws args done i =
      done ++ all_brought shape coercion (numbers (drop i us)) (numbers (drop i ws)) (trees (drop i args)) ≡ all_brought shape coercion (numbers us) (numbers ws) (trees args)

  pub brought_turn : (us ws : List (Option StructId)) (args done : List Term) (i : ℕ) (t d : Term) → i < length us → i < length ws → i < length args
      → tree t ≡ brought shape coercion (option_map (λ s. s.0) (get_or us i None)) (option_map (λ s. s.0) (get_or ws i None)) (tree (get_or args i d))
      → IsRest us ws args (trees done) i → IsRest us ws args (trees (done ++ t ∷ [])) (i + 1)
  brought_turn us ws args done i t d lu lw la e is =
      let rest = all_brought shape coercion (numbers (drop (i + 1) us)) (numbers (drop (i + 1) ws)) (trees (drop (i + 1) args)) in
      ap (λ l. l ++ rest) (map-append tree done (t ∷ []))
      ∙ append_assoc (trees done) (tree t ∷ []) rest
      ∙ ap (λ k. trees done ++ k ∷ rest) e
      ∙ ap (λ l. trees done ++ all_brought shape coercion (numbers l) (numbers (get_or ws i None ∷ drop (i + 1) ws)) (trees (get_or args i d ∷ drop (i + 1) args))) (sym (drop_more us i None lu))
      ∙ ap (λ l. trees done ++ all_brought shape coercion (numbers (drop i us)) (numbers l) (trees (get_or args i d ∷ drop (i + 1) args))) (sym (drop_more ws i None lw))
      ∙ ap (λ l. trees done ++ all_brought shape coercion (numbers (drop i us)) (numbers (drop i ws)) (trees l)) (sym (drop_more args i d la))
      ∙ is

  none : (us ws : List (Option StructId)) (args : List Term) → min (min (length args) (length us)) (length ws) ≡ 0 → all_brought shape coercion (numbers us) (numbers ws) (trees args) ≡ []
  none [] ws args is = refl
  none (u ∷ us) [] args is = refl
  none (u ∷ us) (w ∷ ws) [] is = refl
  none (u ∷ us) (w ∷ ws) (a ∷ args) is = absurd (omega (arith, is))

  pub brought_end : (us ws : List (Option StructId)) (args : List Term) (done : List Tree) (i : ℕ) → i ≡ min (min (length args) (length us)) (length ws) → IsRest us ws args done i → done ≡ all_brought shape coercion (numbers us) (numbers ws) (trees args)
  brought_end us ws args done i e is =
      sym (append-nil done)
      ∙ ap (λ l. done ++ l) (sym (none (drop i us) (drop i ws) (drop i args) (omega (arith, e, length-drop i us, length-drop i ws, length-drop i args))))
      ∙ is
