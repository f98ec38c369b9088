-- Small terms worked by hand, over an environment of an axiom N, its identity id, a function f and a record
-- with the parameter A and the fields x and y of it.
use Rattle.std.specs.Prelude.{◌≡◌, ℕ, true, false, List, [], ◌∷◌, Some, None, map}
use Rattle.hb_tree.specs.Tree.{Tree, sort, rel, pi, lam, app, const, proj, lift, subst_at}
use Rattle.hb_tree.specs.declared.leaves.Sort.TheVariants.{Level}
use Rattle.hb_tree.specs.declared.leaves.RecId.{RecId}
use Rattle.hb_calculus.specs.Declarations.{Decl, an_axiom, a_definition, a_record}
use Rattle.hb_calculus.specs.Telescopes.{former, maker, type_in}
use Rattle.hb_calculus.specs.Contraction.{next, next_eta}
use Rattle.hb_calculus.specs.Sequence.{sequence}

abbrev declared_at : ℕ → Tree
declared_at n = const (record { decl = n; maker = false })

abbrev pub N : Tree
N = declared_at 0

abbrev pub id : Tree
id = declared_at 1

abbrev pub f : Tree
f = declared_at 2

abbrev pub R : RecId
R = record { 0 = 3 }

abbrev pub example : List Decl
example =
    an_axiom 10 (sort (Level 0))
    ∷ a_definition 11 (pi N N) (lam N (rel 0))
    ∷ an_axiom 12 (pi N N)
    ∷ a_record 13 14 (sort (Level 0) ∷ []) 0 ((15, rel 0) ∷ (16, rel 1) ∷ [])
    ∷ []

-- `fun (a : N) (b : N) => v2 a b`, whose last variable but two stands outside
abbrev two_binders : Tree → Tree
two_binders v = lam N (lam N (app (app v (rel 1)) (rel 0)))

abbrev pub LiftsUnderTwo : Type 0
LiftsUnderTwo = lift (two_binders (rel 2)) 3 0 ≡ two_binders (rel 5)

abbrev pub SubstitutesUnderTwo : Type 0
SubstitutesUnderTwo = subst_at (two_binders (rel 2)) (app f (rel 0)) 0 ≡ two_binders (app f (rel 2))

-- the maker applied to the type N and two values
abbrev made : Tree → Tree → Tree
made x y = app (app (app (maker 3) N) x) y

abbrev pub MakerType : Type 0
MakerType =
    type_in (Some (a_record 13 14 (sort (Level 0) ∷ []) 0 ((15, rel 0) ∷ (16, rel 1) ∷ []))) (record { decl = 3; maker = true })
    ≡ Some (pi (sort (Level 0)) (pi (rel 0) (pi (rel 1) (app (former 3) (rel 2)))))

-- a projection steps where the maker has all its arguments, and neither one less nor one more
abbrev pub Projects : Type 0
Projects = next example (proj R 1 (made f id)) ≡ Some id

abbrev pub ProjectsNoLess : Type 0
ProjectsNoLess = next example (proj R 1 (app (app (maker 3) N) f)) ≡ None

abbrev pub ProjectsNoMore : Type 0
ProjectsNoMore = next example (proj R 1 (app (made f f) f)) ≡ None

-- five terms: id becomes its body, it takes the argument, the field is projected, eta ends it
abbrev pub five_terms : List Tree
five_terms =
    app id (proj R 0 (made (lam N (app f (rel 0))) f))
    ∷ app (lam N (rel 0)) (proj R 0 (made (lam N (app f (rel 0))) f))
    ∷ proj R 0 (made (lam N (app f (rel 0))) f)
    ∷ lam N (app f (rel 0))
    ∷ f
    ∷ []

abbrev pub FiveTerms : Type 0
FiveTerms =
    map (sequence example (app id (proj R 0 (made (lam N (app f (rel 0))) f)))) (0 ∷ 1 ∷ 2 ∷ 3 ∷ 4 ∷ [])
    ≡ map (λ t. Some t) five_terms

abbrev pub FiveTermsAreAll : Type 0
FiveTermsAreAll = sequence example (app id (proj R 0 (made (lam N (app f (rel 0))) f))) 5 ≡ None

-- `fun (a : N) (b : N) => v a b`: the body of the outer function is contracted first
abbrev pub EtaNested : Type 0
EtaNested =
    map (sequence example (two_binders (rel 2))) (0 ∷ 1 ∷ 2 ∷ 3 ∷ [])
    ≡ Some (two_binders (rel 2)) ∷ Some (lam N (app (rel 1) (rel 0))) ∷ Some (rel 0) ∷ None ∷ []

-- the maker over all projections of t is t; its parameter may be anything
abbrev pub EtaOfRecord : Type 0
EtaOfRecord = next_eta example (made (proj R 0 (rel 4)) (proj R 1 (rel 4))) ≡ Some (rel 4)

-- the record inside hides that the function outside is an eta form: one contraction makes another
abbrev pub EtaMakesEta : Type 0
EtaMakesEta =
    map
    (sequence example (lam N (app f (app (app (app (maker 3) N) (proj R 0 (rel 0))) (proj R 1 (rel 0))))))
    (1 ∷ 2 ∷ 3 ∷ [])
    ≡ Some (lam N (app f (rel 0))) ∷ Some f ∷ None ∷ []
