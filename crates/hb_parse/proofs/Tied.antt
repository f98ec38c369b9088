-- The new names after any answer are those that the tokens need which were read.
use Rattle.std.proofs.Common.{◌≡◌, ℕ, ◌+◌, ◌<◌, ◌≤◌, zero, suc, Bool, true, false, List, [], ◌∷◌, ◌++◌, length, take, get_or, Option, Some, refl, sym, ap, ◌∙◌, subst, arith, inl, inr, slice_get, Ok, Err}
use Rattle.std.specs.Prelude.{Result, OnOk, OnErr, ◌⊎◌, if◌then◌else◌}
use Rattle.std.proofs.lemmas.Bool.{cases_lt}
use Rattle.std.proofs.lemmas.Option.{slice_get-get_or}
use Rattle.hb_base.specs.declared.name_id.NameId.{NameId}
use Rattle.hb_base.specs.declared.names.NamesRefused.{NamesRefused}
use Rattle.hb_base.specs.Names.{is_named, with_name}
use Rattle.hb_lex.specs.declared.token.Token.{Token}
use Rattle.hb_raw.specs.Sentence.{Sentence}
use Rattle.hb_grammar.specs.Machine.{State}
use Rattle.hb_grammar.proofs.Way.{Came, came-front}
use Rattle.hb_parse.specs.Marks.{piece, first_part}
use Rattle.hb_parse.specs.Signs.{Numbering, Agrees, file_of}
use Rattle.hb_parse.specs.Numbers.{Extends, AddsText, AddsParts}
use Rattle.hb_parse.specs.Answers.{limits, IsNeededBy, AddsRead}
use Rattle.hb_parse.proofs.FileLemmas.{agrees-old}
use Rattle.hb_parse.proofs.Needed.{needed_before}
use Rattle.hb_parse.proofs.NamesLemmas.{Named}

at_last : {X : Type 0} (xs : List X) (x : X) (j : ℕ) → length xs ≤ j → j < length (xs ++ (x ∷ [])) → slice_get (xs ++ (x ∷ [])) j ≡ Some x
at_last [] x zero p q = refl
at_last [] x (suc j) p q = absurd (omega (arith, q))
at_last (y ∷ xs) x zero p q = absurd (omega (arith, p))
at_last (y ∷ xs) x (suc j) p q = at_last xs x j (omega (arith, p)) (omega (arith, q))

held_on : {X : Type 0} (xs ys : List X) (i : ℕ) → i < length xs → slice_get (xs ++ ys) i ≡ slice_get xs i
held_on [] ys i l = absurd (omega (arith, l))
held_on (y ∷ xs) ys zero l = refl
held_on (y ∷ xs) ys (suc i) l = held_on xs ys i (omega (arith, l))

-- nothing is new
pub none_new : (old new : List (List ℕ)) (text : List ℕ) → new ≡ old → AddsText old new text
none_new old new text e j p q = absurd (omega (arith, ap length e, p, q))

pub none_parts : (old new : List (List ℕ)) (text : List ℕ) → new ≡ old → AddsParts old new text
none_parts old new text e j p q = absurd (omega (arith, ap length e, p, q))

named_text : (old new : List (List ℕ)) (text : List ℕ) (b : Bool) → new ≡ (if b then old else (old ++ (text ∷ []))) → AddsText old new text
named_text old new text true e = none_new old new text e
named_text old new text false e = λ j p q.
    subst (λ x. slice_get x j ≡ Some text) (sym e) (at_last old text j p (subst (λ x. j < length x) e q))

-- a text was numbered, or wasn't
pub adds_text : (old new : List (List ℕ)) (text : List ℕ) (r : Result NameId NamesRefused)
    → OnOk r (new ≡ with_name old text) → OnErr r (new ≡ old) → AddsText old new text
adds_text old new text (Ok n) e f = named_text old new text (is_named old text) e
adds_text old new text (Err x) e f = none_new old new text f

pub whole_part : (old new : List (List ℕ)) (text : List ℕ) → AddsText old new text → AddsParts old new text
whole_part old new text h j p q = inl (h j p q)

pub first_parts : (old new : List (List ℕ)) (text : List ℕ) → AddsText old new (first_part text) → AddsParts old new text
first_parts old new text h j p q = inr (h j p q)

-- the first part was numbered, and then the whole or nothing
pub both_parts : (old mid new : List (List ℕ)) (text : List ℕ) → Extends mid new → AddsText old mid (first_part text) → AddsText mid new text
    → AddsParts old new text
both_parts old mid new text (more, e) h g j p q = elim (cases_lt j (length mid)) [
  | inl l ↦ inr (subst (λ x. slice_get x j ≡ Some (first_part text)) (sym e) (held_on mid more j l ∙ h j p l))
  | inr l ↦ inl (g j l q)
]

-- the names before a token, and those of the token
module _ (bytes : List ℕ) (ts : List Token) (i : ℕ) (old mid : List (List ℕ)) (cs : List Sentence) (s : State) (came : (ν : Numbering) → Agrees ν mid → Came limits (take i (file_of ν bytes ts)) cs s) (named : (j : ℕ) → Named old mid cs s j) where
  before : (new : List (List ℕ)) → Extends mid new → (j : ℕ) → length old ≤ j → j < length mid → IsNeededBy new bytes ts i j
  before new k j p q ν a ls ds more e f =
      needed_before j ((named j).under_way) (came ν (agrees-old mid new k ν a)) ((named j).load) ((named j).counts.1 p q) ls ds more e f

  pub tied_at : (t : Token) (new : List (List ℕ)) → i < length ts → t ≡ get_or ts i t → Extends mid new → AddsParts mid new (piece bytes t.span)
      → AddsRead old new bytes ts
  tied_at t new l e k parts = record {
    index = i;
    begins = λ ν a. came-front (came ν (agrees-old mid new k ν a));
    needed = λ j p q. elim (cases_lt j (length mid)) [
      | inl r ↦ inl (before new k j p r)
      | inr r ↦ inr (t, slice_get-get_or ts i t l ∙ ap Some (sym e), parts j r q)
    ];
  }

  pub tied : AddsRead old mid bytes ts
  tied = record {
    index = i;
    begins = λ ν a. came-front (came ν a);
    needed = λ j p q. inl (λ ν a ls ds more e f.
        needed_before j ((named j).under_way) (came ν a) ((named j).load) ((named j).counts.1 p q) ls ds more e f);
  }
