-- Texts of declarations and entries.
use Rattle.std.specs.Prelude.{ℕ, zero, suc, ◌+◌, Bool, true, false, cond, nat_eq, List, [], ◌∷◌, ◌++◌, length, replicate, Option, None, Some, slice_get, codes}
use Rattle.std.specs.Fmt.{decimal}
use Rattle.hb_tree.specs.Tree.{Tree}
use Rattle.hb_tree.specs.declared.leaves.ConstId.{ConstId}
use Rattle.hb_calculus.specs.Declarations.{Decl, an_axiom, a_definition, a_record}
use Rattle.hb_calculus.specs.Telescopes.{type_in}
use Rattle.hb_writer.specs.declared.kind.Kind.{Kind}
use Rattle.hb_writer.specs.declared.kind.Kind.TheVariants.{Rocq, Listing}
use Rattle.hb_writer.specs.Text.{joined, text, text_in, text_or_number}

-- the text of a name
abbrev pub own_text : List (List ℕ) → ℕ → List ℕ
own_text N n = text_or_number (slice_get N n) n

-- a parameter behind a space, with d others outside of it; and all of them
abbrev pub param_text : List (List ℕ) → List Decl → ℕ → Tree → List ℕ
param_text N E d t = joined (codes " (_" ∷ decimal d ∷ codes " : " ∷ text N E d t ∷ codes ")" ∷ [])

abbrev pub params_text : List (List ℕ) → List Decl → ℕ → List Tree → List ℕ
params_text N E d [] = []
params_text N E d (t ∷ ts) = param_text N E d t ++ params_text N E (d + 1) ts

-- a field behind a space, or behind a semicolon where it isn't the first; and all of them: the earlier
-- ones are written by their names
abbrev pub sign_text : (first : Bool) → List ℕ
sign_text true = codes " "
sign_text false = codes "; "

abbrev pub field_text : List (List ℕ) → List Decl → (first : Bool) → List (Option ℕ) → ℕ × Tree → List ℕ
field_text N E first B f = joined (sign_text first ∷ own_text N f.0 ∷ codes " : " ∷ text_in N E B (length B) f.1 ∷ [])

abbrev pub fields_text : List (List ℕ) → List Decl → (first : Bool) → List (Option ℕ) → List (ℕ × Tree) → List ℕ
fields_text N E first B [] = []
fields_text N E first B (f ∷ fs) = field_text N E first B f ++ fields_text N E false (B ++ Some f.0 ∷ []) fs

-- the line of a declaration as Rocq writes it
abbrev pub rocq_text : List (List ℕ) → List Decl → Decl → List ℕ
rocq_text N E (an_axiom n t) = joined (codes "Axiom " ∷ own_text N n ∷ codes " : " ∷ text N E 0 t ∷ codes ".\n" ∷ [])
rocq_text N E (a_definition n t b) =
    joined (codes "Definition " ∷ own_text N n ∷ codes " : " ∷ text N E 0 t ∷ codes " := " ∷ text N E 0 b ∷ codes ".\n" ∷ [])
rocq_text N E (a_record n m ps k fs) =
    joined (codes "Record " ∷ own_text N n ∷ params_text N E 0 ps ∷ codes " : Type@{" ∷ decimal k ∷ codes "} := " ∷ own_text N m ∷ codes " {" ∷ fields_text N E true (replicate (length ps) None) fs ∷ codes " }.\n" ∷ [])

-- the name that a declaration is known by is n
abbrev pub is_own : Option Decl → ℕ → Bool
is_own (Some (an_axiom m t)) n = nat_eq m n
is_own (Some (a_definition m t b)) n = nat_eq m n
is_own (Some (a_record m k ps l fs)) n = nat_eq m n
is_own None n = false

-- the place of the declaration of the name n among the first k, or the number of all
abbrev pub number_before : List Decl → ℕ → ℕ → ℕ
number_before E n zero = length E
number_before E n (suc k) = cond (is_own (slice_get E k) n) k (number_before E n k)

abbrev pub number_of : List Decl → ℕ → ℕ
number_of E n = number_before E n (length E)

-- a constant with its type, where it has one
abbrev pub constant_line : List (List ℕ) → List Decl → ℕ → Option Tree → List ℕ
constant_line N E n (Some t) = joined (own_text N n ∷ codes " : " ∷ text N E 0 t ∷ codes "\n" ∷ [])
constant_line N E n None = []

-- the type that the environment has for the constant of declaration r, or for the maker of the record r
abbrev pub type_at : List Decl → ℕ → Bool → Option Tree
type_at E r maker = type_in (slice_get E r) (record { decl = r; maker = maker })

-- the lines of a declaration in a listing: of a record the former's and the maker's
abbrev pub listing_text : List (List ℕ) → List Decl → Decl → List ℕ
listing_text N E (an_axiom n t) = constant_line N E n (Some t)
listing_text N E (a_definition n t b) = constant_line N E n (Some t)
listing_text N E (a_record n m ps k fs) =
    joined (constant_line N E n (type_at E (number_of E n) false) ∷ constant_line N E m (type_at E (number_of E n) true) ∷ [])

abbrev pub decl_text : Kind → List (List ℕ) → List Decl → Decl → List ℕ
decl_text Rocq N E d = rocq_text N E d
decl_text Listing N E d = listing_text N E d

-- the text of an entry with these declarations
abbrev pub entry_text : Kind → List (List ℕ) → List Decl → List Decl → List ℕ
entry_text kind N E [] = []
entry_text kind N E (d ∷ ds) = decl_text kind N E d ++ entry_text kind N E ds
