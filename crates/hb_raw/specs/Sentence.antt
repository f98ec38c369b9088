-- Sentences: the commands of a source. A Word is a name where it is written, an Item a factory
-- with the carrier that it is asked for.
use Rattle.std.specs.Prelude.{List, Option}
use Rattle.hb_base.specs.declared.span.Span.{Span}
use Rattle.hb_raw.specs.declared.word.Word.{Word}
use Rattle.hb_raw.specs.declared.word.Item.{Item}
use Rattle.hb_raw.specs.Preterm.{Preterm, Groups}

pub data Act : Type 0 where
  axiom_of : (name : Word) → (type : Preterm) → Act
  definition : (name : Word) → (binders : Groups) → (type : Option Preterm) → (body : Preterm) → Act
  mixin : (name carrier : Word) → (items : List Item) → (fields : List (Word × Preterm)) → Act
  factory : (name carrier : Word) → (items : List Item) → (fields : List (Word × Preterm)) → Act
  builders : (carrier : Word) → (var : Option Word) → (item : Item) → Act
  section_end : Act
  structure : (name carrier : Word) → (items : List Item) → Act
  -- a binder is its name, with the structure of its type, or with none for `Type`
  instance : (name : Option Word) → (binders : List (Word × Option Word)) → (factory carrier : Word)
      → (args : List Word) → (value : Preterm) → Act
  join : (a b : Word) → Act
  find : (structure : Word) → (carrier : Preterm) → Act
  require : (name : Word) → Act
  howto : (structure carrier : Word) → Act
  about : (name : Word) → Act

-- a command, at the place of its first word
pub data Sentence : Type 0 where
  sentence : Span → Act → Sentence
