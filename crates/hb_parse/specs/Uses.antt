-- The names that sentences hold: how often the number i stands in them.
use Rattle.std.specs.Prelude.{ℕ, ◌+◌, ◌==◌, List, Option, Some, None, if◌then◌else◌}
use Rattle.std.specs.List.{sum_by}
use Rattle.hb_base.specs.declared.name_id.NameId.{NameId}
use Rattle.hb_base.specs.declared.span.Span.{Span}
use Rattle.hb_raw.specs.declared.word.Word.{Word}
use Rattle.hb_raw.specs.declared.word.Item.{Item}
use Rattle.hb_raw.specs.Preterm.{Preterm, preterm, Form, name, bare, hole, prop, level, product, function, arrow, applied, projected, cast, Preterms, no_terms, term_then, Group, untyped, typed, Groups, no_groups, group_then}
use Rattle.hb_raw.specs.Sentence.{Act, axiom_of, definition, mixin, factory, builders, section_end, structure, instance, join, find, require, howto, about, Sentence, sentence}

abbrev pub name_uses : ℕ → NameId → ℕ
name_uses i n = if n.0 == i then 1 else 0

abbrev pub bound_uses : ℕ → Option NameId × Span → ℕ
bound_uses i (Some n, x) = name_uses i n
bound_uses i (None, x) = 0

abbrev mutual
  pub term_uses : ℕ → Preterm → ℕ
  term_uses i (preterm x f) = form_uses i f

  pub form_uses : ℕ → Form → ℕ
  form_uses i (name n) = name_uses i n
  form_uses i (bare n) = name_uses i n
  form_uses i hole = 0
  form_uses i prop = 0
  form_uses i (level k) = 0
  form_uses i (product gs b) = groups_uses i gs + term_uses i b
  form_uses i (function gs b) = groups_uses i gs + term_uses i b
  form_uses i (arrow a b) = term_uses i a + term_uses i b
  form_uses i (applied f ts) = term_uses i f + terms_uses i ts
  form_uses i (projected t n) = term_uses i t + name_uses i n
  form_uses i (cast t ty) = term_uses i t + term_uses i ty

  pub terms_uses : ℕ → Preterms → ℕ
  terms_uses i no_terms = 0
  terms_uses i (term_then t ts) = term_uses i t + terms_uses i ts

  pub group_uses : ℕ → Group → ℕ
  group_uses i (untyped xs) = sum_by (bound_uses i) xs
  group_uses i (typed xs t) = sum_by (bound_uses i) xs + term_uses i t

  pub groups_uses : ℕ → Groups → ℕ
  groups_uses i no_groups = 0
  groups_uses i (group_then g gs) = group_uses i g + groups_uses i gs

abbrev pub word_uses : ℕ → Word → ℕ
word_uses i w = name_uses i w.name

abbrev pub option_uses : {X : Type 0} → (X → ℕ) → Option X → ℕ
option_uses f None = 0
option_uses f (Some x) = f x

abbrev pub item_uses : ℕ → Item → ℕ
item_uses i t = word_uses i t.factory + word_uses i t.carrier

abbrev pub field_uses : ℕ → Word × Preterm → ℕ
field_uses i (w, t) = word_uses i w + term_uses i t

abbrev pub binder_uses : ℕ → Word × Option Word → ℕ
binder_uses i (w, s) = word_uses i w + option_uses (word_uses i) s

abbrev pub act_uses : ℕ → Act → ℕ
act_uses i (axiom_of n t) = word_uses i n + term_uses i t
act_uses i (definition n gs t b) = word_uses i n + groups_uses i gs + option_uses (term_uses i) t + term_uses i b
act_uses i (mixin n c is fs) = word_uses i n + word_uses i c + sum_by (item_uses i) is + sum_by (field_uses i) fs
act_uses i (factory n c is fs) = word_uses i n + word_uses i c + sum_by (item_uses i) is + sum_by (field_uses i) fs
act_uses i (builders c v t) = word_uses i c + option_uses (word_uses i) v + item_uses i t
act_uses i section_end = 0
act_uses i (structure n c is) = word_uses i n + word_uses i c + sum_by (item_uses i) is
act_uses i (instance n cs f k ws t) =
    option_uses (word_uses i) n + sum_by (binder_uses i) cs + word_uses i f + word_uses i k + sum_by (word_uses i) ws + term_uses i t
act_uses i (join a b) = word_uses i a + word_uses i b
act_uses i (find s t) = word_uses i s + term_uses i t
act_uses i (require n) = word_uses i n
act_uses i (howto s k) = word_uses i s + word_uses i k
act_uses i (about n) = word_uses i n

abbrev pub sentence_uses : ℕ → Sentence → ℕ
sentence_uses i (sentence x a) = act_uses i a

-- how often the number i stands in the sentences
abbrev pub uses : ℕ → List Sentence → ℕ
uses i cs = sum_by (sentence_uses i) cs
