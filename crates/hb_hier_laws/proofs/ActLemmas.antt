-- What is kept for a declaration stays what its list brings, call after call.
use Rattle.std.proofs.Common.{◌≡◌, ℕ, zero, suc, ◌<◌, Bool, true, false, cond, List, [], ◌∷◌, length, get_or, Option, None, Some, refl, sym, ap, ◌∙◌, arith, nat_eq}
use Rattle.std.specs.Prelude.{position, fold}
use Rattle.std.specs.Option.{option_map}
use Rattle.std.proofs.lemmas.Bool.Decides.{nat_tests}
use Rattle.std.proofs.lemmas.List.{get_or_append_left, get_or_push, length_push}
use Rattle.hb_base.specs.declared.name_id.NameId.{NameId}
use Rattle.hb_sets.specs.Set.{Set, union, empty}
use Rattle.hb_order.specs.declared.ids.FactoryId.{FactoryId}
use Rattle.hb_hier.specs.declared.known.Known.{Known}
use Rattle.hb_hier.specs.declared.known.Known.TheVariants.{Mixin, Factory, Structure}
use Rattle.hb_hier.specs.Hierarchy.{Hierarchy, Declared, Grouped, undeclared, ungrouped, nothing, nameless, IsDeclared, known_as, first_of, ended, provision, required, provided, full_or_none, brought}
use Rattle.hb_hier.specs.declared.error.HierRefused.TheVariants.{Unfinished}
use Rattle.hb_hier.specs.Declaring.{fault, fault_as, NoFault, with_mixin, with_factory, with_structure, with_ending}
use Rattle.hb_hier.specs.Giving.{required_or_none, provided_or_none}
use Rattle.hb_hier_laws.specs.Acts.{Act, mixin, factory, structure, ending, giving, after, hierarchy_of, IsTaken, AreTaken, KeepsItsSet, no_act, SetsAreComputedAnew}
use Rattle.hb_hier_laws.proofs.GrowthLemmas.{position-other, position-new, provision-push, ended-kept, known-declared, none-of-mixins, none-of-factories, none-of-structures}

-- what a name stands for, by its places in the three lists
abbrev named : Option ℕ → Option ℕ → Option ℕ → Option Known
named m f s =
    first_of (option_map (λ i. Mixin (record { 0 = i })) m)
    (first_of (option_map (λ i. Factory (record { 0 = i })) f) (option_map (λ i. Structure (record { 0 = i })) s))

abbrev place_in : List Declared → NameId → Option ℕ
place_in list n = position (λ d. nat_eq d.name.0 n.0) list

abbrev place_of : List Grouped → NameId → Option ℕ
place_of list n = position (λ d. nat_eq d.name.0 n.0) list

-- what may stand in a list: a mixin or a structure, or a factory whose section is ended
abbrev Usable : Hierarchy → Known → Type 0
Usable h (Mixin m) = Unit {0}
Usable h (Factory f) = ended h.endings f.0 ≡ true
Usable h (Structure s) = Unit {0}

-- h' has all that h has
record Grown (h h' : Hierarchy) : Type 0 where
  known : (n : NameId) (k : Known) → known_as h n ≡ Some k → known_as h' n ≡ Some k
  required_is : (k : Known) → IsDeclared h k → required h' k ≡ required h k
  provided_is : (k : Known) → IsDeclared h k → Usable h k → provided h' k ≡ provided h k
  usable : (k : Known) → Usable h k → Usable h' k

-- a name without fault is known, and usable
faultless : (h : Hierarchy) (n : NameId) (o : Option Known) → fault_as h n o ≡ None → (k : Known) × (o ≡ Some k) × Usable h k
faultless h n None is = absurd cc
faultless h n (Some (Mixin m)) is = (Mixin m, refl, tt)
faultless h n (Some (Factory f)) is = (Factory f, refl, ended_or (ended h.endings f.0) is)
  where
    ended_or : (b : Bool) → cond b None (Some (Unfinished n)) ≡ None → b ≡ true
    ended_or true is = refl
    ended_or false is = absurd cc
faultless h n (Some (Structure s)) is = (Structure s, refl, tt)

usable-faultless : (h : Hierarchy) (n : NameId) (k : Known) → Usable h k → fault_as h n (Some k) ≡ None
usable-faultless h n (Mixin m) u = refl
usable-faultless h n (Factory f) u = ap (λ b. cond b None (Some (Unfinished n))) u
usable-faultless h n (Structure s) u = refl

module _ (h h' : Hierarchy) (grown : Grown h h') where
  full-kept : (n : NameId) → fault h n ≡ None → full_or_none h' (known_as h' n) ≡ full_or_none h (known_as h n)
  full-kept n is =
      let found = faultless h n (known_as h n) is in
      let declared = known-declared h n found.0 found.1 in
      ap (full_or_none h') (grown.known n found.0 found.1)
      ∙ (λ i. union (grown.required_is found.0 declared i) (grown.provided_is found.0 declared found.2 i))
      ∙ ap (full_or_none h) (sym found.1)

  fault-kept : (n : NameId) → fault h n ≡ None → fault h' n ≡ None
  fault-kept n is =
      let found = faultless h n (known_as h n) is in
      ap (fault_as h' n) (grown.known n found.0 found.1) ∙ usable-faultless h' n found.0 (grown.usable found.0 found.2)

  brought-from : (items : List NameId) (s : Set) → NoFault h items (length items) → fold (λ s n. union s (full_or_none h' (known_as h' n))) s items ≡ fold (λ s n. union s (full_or_none h (known_as h n))) s items
  brought-from [] s none = refl
  brought-from (n ∷ items) s none =
      ap (λ t. fold (λ s n. union s (full_or_none h' (known_as h' n))) (union s t) items) (full-kept n (none zero (omega arith)))
      ∙ brought-from items (union s (full_or_none h (known_as h n))) (λ k lt. none (suc k) (omega (arith, lt)))

  brought-kept : (items : List NameId) → NoFault h items (length items) → brought h' items ≡ brought h items
  brought-kept items none = brought-from items empty none

  faults-kept : (items : List NameId) → NoFault h items (length items) → NoFault h' items (length items)
  faults-kept items none k lt = fault-kept (get_or items k nameless) (none k lt)

-- a declaration is there, with what its items bring
record IsThere (h : Hierarchy) (n : NameId) (items : List NameId) (k : Known) (set : Hierarchy → Known → Set) : Type 0 where
  known : known_as h n ≡ Some k
  usable : NoFault h items (length items)
  declared : IsDeclared h k
  brings : set h k ≡ brought h items

abbrev Kept : Hierarchy → Act → Type 0
Kept h (mixin n items fields) = (m : ℕ) × IsThere h n items (Mixin (record { 0 = m })) required
Kept h (factory n items fields) = (f : ℕ) × IsThere h n items (Factory (record { 0 = f })) required
Kept h (structure n items) = (s : ℕ) × IsThere h n items (Structure (record { 0 = s })) provided
Kept h (ending f provided) = Unit {0}
Kept h (giving k binders n) = Unit {0}

keeps : (h : Hierarchy) (a : Act) → Kept h a → KeepsItsSet h a
keeps h (mixin n items fields) kept = ap (required_or_none h) kept.1.known ∙ kept.1.brings
keeps h (factory n items fields) kept = ap (required_or_none h) kept.1.known ∙ kept.1.brings
keeps h (structure n items) kept = ap (provided_or_none h) kept.1.known ∙ kept.1.brings
keeps h (ending f provided) kept = tt
keeps h (giving k binders n) kept = tt

-- what was there stays so
stays : (h h' : Hierarchy) (grown : Grown h h') (a : Act) → Kept h a → Kept h' a
stays h h' grown (mixin n items fields) kept =
    let k : Known = Mixin (record { 0 = kept.0 }) in (
      kept.0,
      record {
        known = grown.known n k kept.1.known;
        usable = faults-kept h h' grown items kept.1.usable;
        declared = known-declared h' n k (grown.known n k kept.1.known);
        brings = grown.required_is k kept.1.declared ∙ kept.1.brings ∙ sym (brought-kept h h' grown items kept.1.usable);
      },
    )
stays h h' grown (factory n items fields) kept =
    let k : Known = Factory (record { 0 = kept.0 }) in (
      kept.0,
      record {
        known = grown.known n k kept.1.known;
        usable = faults-kept h h' grown items kept.1.usable;
        declared = known-declared h' n k (grown.known n k kept.1.known);
        brings = grown.required_is k kept.1.declared ∙ kept.1.brings ∙ sym (brought-kept h h' grown items kept.1.usable);
      },
    )
stays h h' grown (structure n items) kept =
    let k : Known = Structure (record { 0 = kept.0 }) in (
      kept.0,
      record {
        known = grown.known n k kept.1.known;
        usable = faults-kept h h' grown items kept.1.usable;
        declared = known-declared h' n k (grown.known n k kept.1.known);
        brings = grown.provided_is k kept.1.declared (tt {0}) ∙ kept.1.brings ∙ sym (brought-kept h h' grown items kept.1.usable);
      },
    )
stays h h' grown (ending f provided) kept = tt
stays h h' grown (giving k binders n) kept = tt

-- a name that is known isn't a new one
other-name : (h : Hierarchy) (x n : NameId) (k : Known) → known_as h x ≡ None → known_as h n ≡ Some k → nat_eq x.0 n.0 ≡ false
other-name h x n k new known = by (nat_eq x.0 n.0) refl
  where
    by : (b : Bool) → nat_eq x.0 n.0 ≡ b → nat_eq x.0 n.0 ≡ false
    by false is = is
    by true is = absurd (none (sym new ∙ ap (λ m. known_as h (record { 0 = m })) (number x.0 n.0 is) ∙ known))
      where
        none : None ≡ Some k → ⊥
        none is = absurd cc

        number : (a b : ℕ) → nat_eq a b ≡ true → a ≡ b
        number a b is = grind (arith, nat_tests)

same-name : (n : NameId) → nat_eq n.0 n.0 ≡ true
same-name n = same n.0
  where
    same : (n : ℕ) → nat_eq n n ≡ true
    same n = grind (arith, nat_tests)

grown-mixin : (h : Hierarchy) (x : NameId) (items fields : List NameId) → known_as h x ≡ None → Grown h (with_mixin h x items fields)
grown-mixin h x items fields new = record {
  known = λ n k is.
      ap (λ o. named o (place_in h.factories n) (place_of h.structures n))
      (position-other (λ (d : Declared). nat_eq d.name.0 n.0) h.mixins (record { name = x; required = brought h items; fields = fields }) (other-name h x n k new is))
      ∙ is;
  required_is = required_is;
  provided_is = provided_is;
  usable = usable;
}
  where
    added : Declared
    added = record { name = x; required = brought h items; fields = fields }

    required_is : (k : Known) → IsDeclared h k → required (with_mixin h x items fields) k ≡ required h k
    required_is (Mixin m) lt = ap (λ d. d.required) (get_or_append_left h.mixins (added ∷ []) undeclared m.0 lt)
    required_is (Factory f) lt = refl
    required_is (Structure s) lt = refl

    provided_is : (k : Known) → IsDeclared h k → Usable h k → provided (with_mixin h x items fields) k ≡ provided h k
    provided_is (Mixin m) lt u = refl
    provided_is (Factory f) lt u = refl
    provided_is (Structure s) lt u = refl

    usable : (k : Known) → Usable h k → Usable (with_mixin h x items fields) k
    usable (Mixin m) u = u
    usable (Factory f) u = u
    usable (Structure s) u = u

grown-factory : (h : Hierarchy) (x : NameId) (items fields : List NameId) → known_as h x ≡ None → Grown h (with_factory h x items fields)
grown-factory h x items fields new = record {
  known = λ n k is.
      ap (λ o. named (place_in h.mixins n) o (place_of h.structures n))
      (position-other (λ (d : Declared). nat_eq d.name.0 n.0) h.factories (record { name = x; required = brought h items; fields = fields }) (other-name h x n k new is))
      ∙ is;
  required_is = required_is;
  provided_is = provided_is;
  usable = usable;
}
  where
    added : Declared
    added = record { name = x; required = brought h items; fields = fields }

    required_is : (k : Known) → IsDeclared h k → required (with_factory h x items fields) k ≡ required h k
    required_is (Mixin m) lt = refl
    required_is (Factory f) lt = ap (λ d. d.required) (get_or_append_left h.factories (added ∷ []) undeclared f.0 lt)
    required_is (Structure s) lt = refl

    provided_is : (k : Known) → IsDeclared h k → Usable h k → provided (with_factory h x items fields) k ≡ provided h k
    provided_is (Mixin m) lt u = refl
    provided_is (Factory f) lt u = refl
    provided_is (Structure s) lt u = refl

    usable : (k : Known) → Usable h k → Usable (with_factory h x items fields) k
    usable (Mixin m) u = u
    usable (Factory f) u = u
    usable (Structure s) u = u

grown-structure : (h : Hierarchy) (x : NameId) (items : List NameId) → known_as h x ≡ None → Grown h (with_structure h x items)
grown-structure h x items new = record {
  known = λ n k is.
      ap (λ o. named (place_in h.mixins n) (place_in h.factories n) o)
      (position-other (λ (d : Grouped). nat_eq d.name.0 n.0) h.structures (record { name = x; mixins = brought h items }) (other-name h x n k new is))
      ∙ is;
  required_is = required_is;
  provided_is = provided_is;
  usable = usable;
}
  where
    added : Grouped
    added = record { name = x; mixins = brought h items }

    required_is : (k : Known) → IsDeclared h k → required (with_structure h x items) k ≡ required h k
    required_is (Mixin m) lt = refl
    required_is (Factory f) lt = refl
    required_is (Structure s) lt = refl

    provided_is : (k : Known) → IsDeclared h k → Usable h k → provided (with_structure h x items) k ≡ provided h k
    provided_is (Mixin m) lt u = refl
    provided_is (Factory f) lt u = refl
    provided_is (Structure s) lt u = ap (λ d. d.mixins) (get_or_append_left h.structures (added ∷ []) ungrouped s.0 lt)

    usable : (k : Known) → Usable h k → Usable (with_structure h x items) k
    usable (Mixin m) u = u
    usable (Factory f) u = u
    usable (Structure s) u = u

grown-ending : (h : Hierarchy) (f : FactoryId) (set : Set) → Grown h (with_ending h f set)
grown-ending h f set = record {
  known = λ n k is. is;
  required_is = required_is;
  provided_is = provided_is;
  usable = usable;
}
  where
    required_is : (k : Known) → IsDeclared h k → required (with_ending h f set) k ≡ required h k
    required_is (Mixin m) lt = refl
    required_is (Factory g) lt = refl
    required_is (Structure s) lt = refl

    provided_is : (k : Known) → IsDeclared h k → Usable h k → provided (with_ending h f set) k ≡ provided h k
    provided_is (Mixin m) lt u = refl
    provided_is (Factory g) lt u = provision-push h.endings (record { factory = f; provided = set }) g.0 u
    provided_is (Structure s) lt u = refl

    usable : (k : Known) → Usable h k → Usable (with_ending h f set) k
    usable (Mixin m) u = u
    usable (Factory g) u = ended-kept h.endings (record { factory = f; provided = set }) g.0 u
    usable (Structure s) u = u

same-lists : (h h' : Hierarchy) → h'.mixins ≡ h.mixins → h'.factories ≡ h.factories → h'.structures ≡ h.structures → h'.endings ≡ h.endings → Grown h h'
same-lists h h' ms fs ss es = record {
  known = λ n k is. (λ i. known_as (record { order = h'.order; mixins = ms i; factories = fs i; endings = h'.endings; structures = ss i; givings = h'.givings }) n) ∙ is;
  required_is = required_is;
  provided_is = provided_is;
  usable = usable;
}
  where
    required_is : (k : Known) → IsDeclared h k → required h' k ≡ required h k
    required_is (Mixin m) lt = ap (λ l. (get_or l m.0 undeclared).required) ms
    required_is (Factory g) lt = ap (λ l. (get_or l g.0 undeclared).required) fs
    required_is (Structure s) lt = refl

    provided_is : (k : Known) → IsDeclared h k → Usable h k → provided h' k ≡ provided h k
    provided_is (Mixin m) lt u = refl
    provided_is (Factory g) lt u = ap (λ l. provision l g.0) es
    provided_is (Structure s) lt u = ap (λ l. (get_or l s.0 ungrouped).mixins) ss

    usable : (k : Known) → Usable h k → Usable h' k
    usable (Mixin m) u = u
    usable (Factory g) u = ap (λ l. ended l g.0) es ∙ u
    usable (Structure s) u = u

grown : (h : Hierarchy) (a : Act) → IsTaken h a → Grown h (after h a)
grown h (mixin n items fields) taken = grown-mixin h n items fields taken.0
grown h (factory n items fields) taken = grown-factory h n items fields taken.0
grown h (structure n items) taken = grown-structure h n items taken.0
grown h (ending f set) taken = grown-ending h f set
grown h (giving k binders n) taken = same-lists h (after h (giving k binders n)) refl refl refl refl

-- what a call declares is there after it
there : (h : Hierarchy) (a : Act) → IsTaken h a → Kept (after h a) a
there h (mixin n items fields) taken = (
  length h.mixins,
  record {
    known = ap (λ o. named o (place_in h.factories n) (place_of h.structures n)) (position-new (λ (d : Declared). nat_eq d.name.0 n.0) h.mixins added (none-of-mixins h n taken.0) (same-name n));
    usable = faults-kept h (with_mixin h n items fields) (grown-mixin h n items fields taken.0) items taken.1;
    declared = omega (arith, length_push h.mixins added);
    brings = ap (λ d. d.required) (get_or_push h.mixins added undeclared (length h.mixins) refl) ∙ sym (brought-kept h (with_mixin h n items fields) (grown-mixin h n items fields taken.0) items taken.1);
  },
)
  where
    added : Declared
    added = record { name = n; required = brought h items; fields = fields }
there h (factory n items fields) taken = (
  length h.factories,
  record {
    known =
        ap (λ o. named o (place_in (with_factory h n items fields).factories n) (place_of h.structures n)) (none-of-mixins h n taken.0)
        ∙ ap (λ o. named None o (place_of h.structures n)) (position-new (λ (d : Declared). nat_eq d.name.0 n.0) h.factories added (none-of-factories h n taken.0) (same-name n));
    usable = faults-kept h (with_factory h n items fields) (grown-factory h n items fields taken.0) items taken.1;
    declared = omega (arith, length_push h.factories added);
    brings = ap (λ d. d.required) (get_or_push h.factories added undeclared (length h.factories) refl) ∙ sym (brought-kept h (with_factory h n items fields) (grown-factory h n items fields taken.0) items taken.1);
  },
)
  where
    added : Declared
    added = record { name = n; required = brought h items; fields = fields }
there h (structure n items) taken = (
  length h.structures,
  record {
    known =
        ap (λ o. named o (place_in h.factories n) (place_of (with_structure h n items).structures n)) (none-of-mixins h n taken.0)
        ∙ ap (λ o. named None o (place_of (with_structure h n items).structures n)) (none-of-factories h n taken.0)
        ∙ ap (named None None) (position-new (λ (d : Grouped). nat_eq d.name.0 n.0) h.structures added (none-of-structures h n taken.0) (same-name n));
    usable = faults-kept h (with_structure h n items) (grown-structure h n items taken.0) items taken.1;
    declared = omega (arith, length_push h.structures added);
    brings = ap (λ d. d.mixins) (get_or_push h.structures added ungrouped (length h.structures) refl) ∙ sym (brought-kept h (with_structure h n items) (grown-structure h n items taken.0) items taken.1);
  },
)
  where
    added : Grouped
    added = record { name = n; mixins = brought h items }
there h (ending f set) taken = tt
there h (giving k binders n) taken = tt

walk : (h : Hierarchy) (acts : List Act) → AreTaken h acts → (a : Act) → Kept h a → Kept (fold after h acts) a
walk h [] taken a kept = kept
walk h (b ∷ acts) taken a kept = walk (after h b) acts taken.1 a (stays h (after h b) (grown h b taken.0) a kept)

each : (h : Hierarchy) (acts : List Act) → AreTaken h acts → (i : ℕ) → i < length acts → Kept (fold after h acts) (get_or acts i no_act)
each h [] taken i lt = absurd (omega (arith, lt))
each h (a ∷ acts) taken zero lt = walk (after h a) acts taken.1 a (there h a taken.0)
each h (a ∷ acts) taken (suc i) lt = each (after h a) acts taken.1 i (omega (arith, lt))

pub computed_anew : SetsAreComputedAnew
computed_anew acts taken i lt = keeps (hierarchy_of acts) (get_or acts i no_act) (each nothing acts taken i lt)
