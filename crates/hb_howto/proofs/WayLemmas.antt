-- What was tried of candidates, and the least lists that it shows.
use Rattle.std.proofs.Common.{◌≡◌, ◌≢◌, Bool, true, false, ◌&&◌, not, IsTrue, List, [], ◌∷◌, map, refl, sym, subst, arith}
use Rattle.std.specs.Prelude.{All}
use Rattle.std.proofs.lemmas.List.Elements.{All-nil, All-cons, All-head, All-tail}
use Rattle.hb_sets.specs.Set.{Set, Inside, is_subset, union}
use Rattle.hb_hier.specs.declared.known.Known.{Known}
use Rattle.hb_hier.specs.Hierarchy.{Hierarchy, provided}
use Rattle.hb_howto.specs.declared.candidate.Candidate.{Candidate}
use Rattle.hb_howto.specs.Filling.{IsUsable, AreDifferent, Reaches, Fills}
use Rattle.hb_howto.specs.Ways.{IsWay}
use Rattle.hb_howto.specs.Tried.{IsCandidate, reaches, neither_reaches, no_order_reaches, no_pair_reaches, no_part_reaches}
use Rattle.hb_howto.proofs.PartLemmas.{NoneOfThree, part-of_one, part-of_two, part-of_three}

and-parts : (a b : Bool) → IsTrue (a && b) → IsTrue a × IsTrue b
and-parts true b yes_ = (refl, yes_)
and-parts false b never = cc

and-both : (a b : Bool) → IsTrue a → IsTrue b → IsTrue (a && b)
and-both a b first second = cc (first, second)

not-true : (b : Bool) → IsTrue (not b) → ¬ (IsTrue b)
not-true b off on = cc

-- what was tried says what the hierarchy does
reaches-is : (h : Hierarchy) (wanted held : Set) (cs : List Candidate) → All (IsCandidate h) cs → IsTrue (reaches wanted held cs) → Reaches h wanted held (map (λ c. c.known) cs)
unfolding reaches
reaches-is h wanted held [] each yes_ = yes_
reaches-is h wanted held (c ∷ cs) each yes_ =
    let first = All-head (IsCandidate h) c cs each in
    let both = and-parts (is_subset c.required held) (reaches wanted (union held c.provided) cs) yes_ in (
      subst (λ (s : Set). Inside s held) first.requires_it both.0,
      reaches-is h wanted (union held (provided h c.known)) cs (All-tail (IsCandidate h) c cs each)
          (subst (λ (s : Set). IsTrue (reaches wanted (union held s) cs)) first.provides_it both.1),
    )

-- and the other way round
is-reaches : (h : Hierarchy) (wanted held : Set) (cs : List Candidate) → All (IsCandidate h) cs → Reaches h wanted held (map (λ c. c.known) cs) → IsTrue (reaches wanted held cs)
unfolding reaches
is-reaches h wanted held [] each is = is
is-reaches h wanted held (c ∷ cs) each is =
    let first = All-head (IsCandidate h) c cs each in
    and-both (is_subset c.required held) (reaches wanted (union held c.provided) cs)
    (subst (λ (s : Set). Inside s held) (sym first.requires_it) is.0)
    (subst (λ (s : Set). IsTrue (reaches wanted (union held s) cs)) (sym first.provides_it)
    (is-reaches h wanted (union held (provided h c.known)) cs (All-tail (IsCandidate h) c cs each) is.1))

-- candidates that weren't seen to reach it don't
not-reaches : (h : Hierarchy) (wanted held : Set) (cs : List Candidate) → All (IsCandidate h) cs → IsTrue (not (reaches wanted held cs)) → ¬ (Reaches h wanted held (map (λ c. c.known) cs))
not-reaches h wanted held cs each off is = not-true (reaches wanted held cs) off (is-reaches h wanted held cs each is)

nothing-reaches : (h : Hierarchy) (wanted given : Set) → is_subset wanted given ≡ false → ¬ (Reaches h wanted given [])
nothing-reaches h wanted given missing inside = cc

each-one : (h : Hierarchy) (a : Candidate) → IsCandidate h a → All (IsCandidate h) (a ∷ [])
each-one h a is = All-cons (IsCandidate h) a [] is (All-nil (IsCandidate h))

each-two : (h : Hierarchy) (a b : Candidate) → IsCandidate h a → IsCandidate h b → All (IsCandidate h) (a ∷ b ∷ [])
each-two h a b is is_b = All-cons (IsCandidate h) a (b ∷ []) is (each-one h b is_b)

each-three : (h : Hierarchy) (a b c : Candidate) → IsCandidate h a → IsCandidate h b → IsCandidate h c → All (IsCandidate h) (a ∷ b ∷ c ∷ [])
each-three h a b c is is_b is_c = All-cons (IsCandidate h) a (b ∷ c ∷ []) is (each-two h b c is_b is_c)

-- each known is usable
all-usable : (h : Hierarchy) (cs : List Candidate) → All (IsCandidate h) cs → All (IsUsable h) (map (λ c. c.known) cs)
all-usable h [] each = All-nil (IsUsable h)
all-usable h (c ∷ cs) each =
    All-cons (IsUsable h) c.known (map (λ c. c.known) cs) (All-head (IsCandidate h) c cs each).usable
    (all-usable h cs (All-tail (IsCandidate h) c cs each))

pub different-two : (a b : Known) → a ≢ b → AreDifferent (a ∷ b ∷ [])
different-two a b differ = (All-cons (λ l. a ≢ l) b [] differ (All-nil (λ l. a ≢ l)), (All-nil (λ l. b ≢ l), tt))

pub different-three : (a b c : Known) → a ≢ b → a ≢ c → b ≢ c → AreDifferent (a ∷ b ∷ c ∷ [])
different-three a b c ab ac bc =
    (All-cons (λ l. a ≢ l) b (c ∷ []) ab (All-cons (λ l. a ≢ l) c [] ac (All-nil (λ l. a ≢ l))), different-two b c bc)

fills-of : (h : Hierarchy) (wanted given : Set) (cs : List Candidate) → All (IsCandidate h) cs → AreDifferent (map (λ c. c.known) cs) → IsTrue (reaches wanted given cs) → Fills h wanted given (map (λ c. c.known) cs)
fills-of h wanted given cs each differ yes_ =
    record { usable = all-usable h cs each; different = differ; reaches = reaches-is h wanted given cs each yes_ }

pub way-one : (h : Hierarchy) (wanted given : Set) (a : Candidate) → is_subset wanted given ≡ false → IsCandidate h a → IsTrue (reaches wanted given (a ∷ [])) → IsWay h wanted given (a.name ∷ [])
way-one h wanted given a missing is yes_ = record {
  list = a.known ∷ [];
  some = omega arith;
  few = omega arith;
  least = record {
    fills = fills-of h wanted given (a ∷ []) (each-one h a is) (All-nil (λ l. a.known ≢ l), tt) yes_;
    least = λ part proper fills. part-of_one (Reaches h wanted given) a.known (nothing-reaches h wanted given missing) part proper fills.reaches;
  };
  names_are = cc (is.named);
}

pub way-two : (h : Hierarchy) (wanted given : Set) (a b : Candidate) → is_subset wanted given ≡ false → IsCandidate h a → IsCandidate h b → a.known ≢ b.known → IsTrue (reaches wanted given (a ∷ b ∷ [])) → IsTrue (neither_reaches wanted given a b) → IsWay h wanted given (a.name ∷ b.name ∷ [])
unfolding neither_reaches
way-two h wanted given a b missing is is_b differ yes_ none =
    let alone = and-parts (not (reaches wanted given (a ∷ []))) (not (reaches wanted given (b ∷ []))) none in
    record {
      list = a.known ∷ b.known ∷ [];
      some = omega arith;
      few = omega arith;
      least = record {
        fills = fills-of h wanted given (a ∷ b ∷ []) (each-two h a b is is_b) (different-two a.known b.known differ) yes_;
        least = λ part proper fills. part-of_two (Reaches h wanted given) a.known b.known
            (nothing-reaches h wanted given missing)
            (not-reaches h wanted given (a ∷ []) (each-one h a is) alone.0)
            (not-reaches h wanted given (b ∷ []) (each-one h b is_b) alone.1)
            part proper fills.reaches;
      };
      names_are = cc (is.named, is_b.named);
    }

-- what was tried of the parts of three
none-of_three : (h : Hierarchy) (wanted given : Set) (a b c : Candidate) → is_subset wanted given ≡ false → IsCandidate h a → IsCandidate h b → IsCandidate h c → IsTrue (no_part_reaches wanted given a b c) → NoneOfThree (Reaches h wanted given) a.known b.known c.known
unfolding no_part_reaches no_pair_reaches no_order_reaches neither_reaches
none-of_three h wanted given a b c missing is is_b is_c none =
    let parts = and-parts (neither_reaches wanted given a b && not (reaches wanted given (c ∷ []))) (no_pair_reaches wanted given a b c) none in
    let alone = and-parts (neither_reaches wanted given a b) (not (reaches wanted given (c ∷ []))) parts.0 in
    let ab = and-parts (not (reaches wanted given (a ∷ []))) (not (reaches wanted given (b ∷ []))) alone.0 in
    let pairs = and-parts (no_order_reaches wanted given a b && no_order_reaches wanted given a c) (no_order_reaches wanted given b c) parts.1 in
    let with_a = and-parts (no_order_reaches wanted given a b) (no_order_reaches wanted given a c) pairs.0 in
    let first_two = orders a b with_a.0 in
    let outer_two = orders a c with_a.1 in
    let last_two = orders b c pairs.1 in
    record {
      none = nothing-reaches h wanted given missing;
      first = not-reaches h wanted given (a ∷ []) (each-one h a is) ab.0;
      second = not-reaches h wanted given (b ∷ []) (each-one h b is_b) ab.1;
      third = not-reaches h wanted given (c ∷ []) (each-one h c is_c) alone.1;
      first_second = not-reaches h wanted given (a ∷ b ∷ []) (each-two h a b is is_b) first_two.0;
      second_first = not-reaches h wanted given (b ∷ a ∷ []) (each-two h b a is_b is) first_two.1;
      first_third = not-reaches h wanted given (a ∷ c ∷ []) (each-two h a c is is_c) outer_two.0;
      third_first = not-reaches h wanted given (c ∷ a ∷ []) (each-two h c a is_c is) outer_two.1;
      second_third = not-reaches h wanted given (b ∷ c ∷ []) (each-two h b c is_b is_c) last_two.0;
      third_second = not-reaches h wanted given (c ∷ b ∷ []) (each-two h c b is_c is_b) last_two.1;
    }
  where
    orders : (x y : Candidate) → IsTrue (no_order_reaches wanted given x y) → IsTrue (not (reaches wanted given (x ∷ y ∷ []))) × IsTrue (not (reaches wanted given (y ∷ x ∷ [])))
    orders x y both = and-parts (not (reaches wanted given (x ∷ y ∷ []))) (not (reaches wanted given (y ∷ x ∷ []))) both

pub way-three : (h : Hierarchy) (wanted given : Set) (a b c : Candidate) → is_subset wanted given ≡ false → IsCandidate h a → IsCandidate h b → IsCandidate h c → AreDifferent (a.known ∷ b.known ∷ c.known ∷ []) → IsTrue (reaches wanted given (a ∷ b ∷ c ∷ [])) → IsTrue (no_part_reaches wanted given a b c) → IsWay h wanted given (a.name ∷ b.name ∷ c.name ∷ [])
way-three h wanted given a b c missing is is_b is_c differ yes_ none = record {
  list = a.known ∷ b.known ∷ c.known ∷ [];
  some = omega arith;
  few = omega arith;
  least = record {
    fills = fills-of h wanted given (a ∷ b ∷ c ∷ []) (each-three h a b c is is_b is_c) differ yes_;
    least = λ part proper fills. part-of_three (Reaches h wanted given) a.known b.known c.known
        (none-of_three h wanted given a b c missing is is_b is_c none)
        part proper fills.different fills.reaches;
  };
  names_are = cc (is.named, is_b.named, is_c.named);
}
