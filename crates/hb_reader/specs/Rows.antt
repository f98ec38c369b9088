-- Rows of known tokens: which token has to come at each place, at which nesting, and what then.
use Rattle.std.specs.Prelude.{ℕ, [], Some, None}
use Rattle.hb_base.specs.declared.span.Span.{Span}
use Rattle.hb_raw.specs.declared.word.Word.{Word}
use Rattle.hb_raw.specs.declared.word.Item.{Item}
use Rattle.hb_raw.specs.Sentence.{builders, join, require, howto, about}
use Rattle.hb_grammar.specs.declared.mark.Mark.{Mark}
use Rattle.hb_grammar.specs.declared.mark.Mark.TheVariants.{Ident, Universe, Of, Close, Brace, Open, Colon, Becomes, Context, Definition, Record, Import, Hole}
use Rattle.hb_grammar.specs.Leaf.{Sign, word}
use Rattle.hb_grammar.specs.Machine as plain
use Rattle.hb_reader.specs.declared.row.Row.{Row}
use Rattle.hb_reader.specs.declared.row.Row.TheVariants as rows
use Rattle.hb_reader.specs.declared.heads.HeadRow.{HeadRow}
use Rattle.hb_reader.specs.declared.heads.HeadRow.TheVariants as heads
use Rattle.hb_reader.specs.declared.queries.QueryRow.{QueryRow}
use Rattle.hb_reader.specs.declared.queries.QueryRow.TheVariants as queries
use Rattle.hb_reader.specs.declared.carrier.Carrying.{Carrying}
use Rattle.hb_reader.specs.declared.carrier.Carrying.TheVariants as carryings
use Rattle.hb_reader.specs.declared.carrier.CarrierRow.{CarrierRow}
use Rattle.hb_reader.specs.declared.carrier.CarrierRow.TheVariants as carriers
use Rattle.hb_reader.specs.declared.builders.BuildersRow.{BuildersRow}
use Rattle.hb_reader.specs.declared.builders.BuildersRow.TheVariants as buildings
use Rattle.hb_reader.specs.declared.structures.StructureRow.{StructureRow}
use Rattle.hb_reader.specs.declared.structures.StructureRow.TheVariants as structures
use Rattle.hb_reader.specs.declared.fork.Fork.{Fork}
use Rattle.hb_reader.specs.declared.fork.Fork.TheVariants as forks

-- one known token: its nesting, its mark, and what comes behind it
pub record Take : Type 0 where
  pub nest : ℕ
  pub mark : Mark
  pub behind : Sign → plain.State

abbrev pub taking : Take → plain.State
taking t = plain.take t.nest t.mark t.behind

abbrev pub take : ℕ → Mark → (Sign → plain.State) → Take
take d m f = record { nest = d; mark = m; behind = f }

-- one of two known tokens
abbrev pub either : Take → Take → plain.State
either t u = plain.either t.nest t.mark t.behind u.nest u.mark u.behind

abbrev pub head_row : HeadRow → Take
head_row (heads.AxiomName x) = take 0 Ident (λ n. plain.take 0 Colon (λ _. plain.want plain.first (plain.axiom_type x (word n))))
head_row (heads.AxiomColon x n) = take 0 Colon (λ _. plain.want plain.first (plain.axiom_type x n))
head_row (heads.DefinitionName x) = take 0 Ident (λ n. plain.groups (plain.of_definition x (word n)) [] 0)

abbrev pub query_row : QueryRow → Take
query_row (queries.JoinFirst x) = take 0 Ident (λ a. plain.take 0 Ident (λ b. plain.finishes x (join (word a) (word b))))
query_row (queries.JoinSecond x a) = take 0 Ident (λ b. plain.finishes x (join a (word b)))
query_row (queries.FindStructure x) = take 0 Ident (λ s. plain.want plain.alone (plain.carrier_found x (word s)))
query_row (queries.RequireImported x) = take 0 Ident (λ n. plain.finishes x (require (word n)))
query_row (queries.HowtoFirst x) = take 0 Ident (λ a. plain.take 0 Ident (λ b. plain.finishes x (howto (word a) (word b))))
query_row (queries.HowtoSecond x a) = take 0 Ident (λ b. plain.finishes x (howto a (word b)))
query_row (queries.AboutName x) = take 0 Ident (λ n. plain.finishes x (about (word n)))

abbrev pub carried : Carrying → Word → plain.State
carried (carryings.Record b x n) = plain.record_carried b x n
carried (carryings.Builders x) = plain.builders_carried x

abbrev pub carrier_close : Carrying → Word → Take
carrier_close f w = take 1 Close (λ _. carried f w)

abbrev pub carrier_universe : Carrying → Word → Take
carrier_universe f w = take 1 Universe (λ _. taking (carrier_close f w))

abbrev pub carrier_colon : Carrying → Word → Take
carrier_colon f w = take 1 Colon (λ _. taking (carrier_universe f w))

abbrev pub carrier_row : CarrierRow → Take
carrier_row (carriers.RecordWord b x) =
    take 0 Record (λ _. plain.take 0 Ident (λ n. plain.carrier_begins (plain.record_carried b x (word n))))
carrier_row (carriers.RecordName b x) = take 0 Ident (λ n. plain.carrier_begins (plain.record_carried b x (word n)))
carrier_row (carriers.BuildersContext x) = take 0 Context (λ _. plain.carrier_begins (plain.builders_carried x))
carrier_row (carriers.Name f) = take 1 Ident (λ w. taking (carrier_colon f (word w)))
carrier_row (carriers.Colon f w) = carrier_colon f w
carrier_row (carriers.Universe f w) = carrier_universe f w
carrier_row (carriers.Close f w) = carrier_close f w

abbrev pub builders_close : Span → Word → Word → Item → Take
builders_close x c v i = take 1 Close (λ _. plain.finishes x (builders c (Some v) i))

abbrev pub builders_item : Span → Word → Word → Word → Take
builders_item x c v f = take 1 Ident (λ k. taking (builders_close x c v (record { factory = f; carrier = word k })))

abbrev pub builders_factory : Span → Word → Word → Take
builders_factory x c v = take 1 Ident (λ f. taking (builders_item x c v (word f)))

abbrev pub builders_colon : Span → Word → Word → Take
builders_colon x c v = take 1 Colon (λ _. taking (builders_factory x c v))

abbrev pub builders_of_item : Span → Word → Word → Take
builders_of_item x c f =
    take 0 Ident (λ k. plain.finishes x (builders c None (record { factory = f; carrier = word k })))

abbrev pub builders_row : BuildersRow → Take
builders_row (buildings.Var x c) = take 1 Ident (λ v. taking (builders_colon x c (word v)))
builders_row (buildings.Colon x c v) = builders_colon x c v
builders_row (buildings.Factory x c v) = builders_factory x c v
builders_row (buildings.Item x c v f) = builders_item x c v f
builders_row (buildings.Close x c v i) = builders_close x c v i
builders_row (buildings.OfFactory x c) = take 0 Ident (λ f. taking (builders_of_item x c (word f)))
builders_row (buildings.OfItem x c f) = builders_of_item x c f

abbrev pub structure_of : Span → Word → Word → Take
structure_of x n c = take 0 Of (λ _. plain.item_begins (plain.of_structure x n c) [])

abbrev pub structure_carrier : Span → Word → Take
structure_carrier x n = take 0 Ident (λ c. taking (structure_of x n (word c)))

abbrev pub structure_brace : Span → Word → Take
structure_brace x n = take 0 Brace (λ _. taking (structure_carrier x n))

abbrev pub structure_becomes : Span → Word → Take
structure_becomes x n = take 0 Becomes (λ _. taking (structure_brace x n))

abbrev pub structure_name : Span → Take
structure_name x = take 0 Ident (λ n. taking (structure_becomes x (word n)))

abbrev pub instance_name : Span → plain.State
instance_name x = plain.either 0 Ident (λ n. plain.instance_named x (Some (word n))) 0 Hole (λ n. plain.instance_named x None)

abbrev pub structure_row : StructureRow → Take
structure_row (structures.Definition x) = take 0 Definition (λ _. taking (structure_name x))
structure_row (structures.Name x) = structure_name x
structure_row (structures.Becomes x n) = structure_becomes x n
structure_row (structures.Brace x n) = structure_brace x n
structure_row (structures.Carrier x n) = structure_carrier x n
structure_row (structures.Of x n c) = structure_of x n c
structure_row (structures.Instance x) = take 0 Definition (λ _. instance_name x)

-- the first of two tokens, and the second
abbrev pub first_way : Fork → Take
first_way (forks.Carrier f) = take 0 Ident (λ w. carried f (word w))
first_way (forks.Carried b x n c) = take 0 Of (λ _. plain.item_begins (plain.of_record b x n c) [])
first_way (forks.Builders x c) = take 1 Open (λ _. plain.take 1 Ident (λ v. taking (builders_colon x c (word v))))
first_way (forks.InstanceName x) = take 0 Ident (λ n. plain.instance_named x (Some (word n)))
first_way (forks.Require x) = take 0 Ident (λ n. plain.finishes x (require (word n)))

abbrev pub second_way : Fork → Take
second_way (forks.Carrier f) = take 1 Open (λ _. plain.take 1 Ident (λ w. taking (carrier_colon f (word w))))
second_way (forks.Carried b x n c) =
    take 0 Becomes (λ _. plain.fields_begin (record { kind = b; start = x; name = n; carrier = c; items = [] }))
second_way (forks.Builders x c) = take 0 Of (λ _. plain.take 0 Ident (λ f. taking (builders_of_item x c (word f))))
second_way (forks.InstanceName x) = take 0 Hole (λ n. plain.instance_named x None)
second_way (forks.Require x) = take 0 Import (λ _. plain.take 0 Ident (λ n. plain.finishes x (require (word n))))

abbrev pub forking : Fork → plain.State
forking f = either (first_way f) (second_way f)

abbrev pub row : Row → plain.State
row (rows.Head r) = taking (head_row r)
row (rows.Query r) = taking (query_row r)
row (rows.Carrier r) = taking (carrier_row r)
row (rows.Builders r) = taking (builders_row r)
row (rows.Structure r) = taking (structure_row r)
row (rows.Fork f) = forking f
