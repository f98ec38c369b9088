-- Signs of one token that differ in numbers which a step doesn't read: rows of known tokens.
use Rattle.std.proofs.Common.{◌≡◌, ℕ, false, refl, ap, ◌∙◌}
use Rattle.hb_base.specs.declared.name_id.NameId.{NameId}
use Rattle.hb_base.specs.declared.span.Span.{Span}
use Rattle.hb_grammar.specs.declared.mark.Mark.{Mark}
use Rattle.hb_grammar.specs.declared.mark.Mark.TheVariants.{Ident, Pair}
use Rattle.hb_grammar.specs.declared.mark.Second.{Second}
use Rattle.hb_grammar.specs.declared.mark.Second.TheVariants as second
use Rattle.hb_grammar.specs.Leaf.{Sign}
use Rattle.hb_grammar.specs.Machine as plain
use Rattle.hb_reader.specs.declared.row.Row.{Row}
use Rattle.hb_reader.specs.declared.row.Row.TheVariants as rows
use Rattle.hb_reader.specs.declared.heads.HeadRow.{HeadRow}
use Rattle.hb_reader.specs.declared.heads.HeadRow.TheVariants as heads
use Rattle.hb_reader.specs.declared.queries.QueryRow.{QueryRow}
use Rattle.hb_reader.specs.declared.queries.QueryRow.TheVariants as queries
use Rattle.hb_reader.specs.declared.carrier.CarrierRow.{CarrierRow}
use Rattle.hb_reader.specs.declared.carrier.CarrierRow.TheVariants as carriers
use Rattle.hb_reader.specs.declared.builders.BuildersRow.{BuildersRow}
use Rattle.hb_reader.specs.declared.builders.BuildersRow.TheVariants as buildings
use Rattle.hb_reader.specs.declared.structures.StructureRow.{StructureRow}
use Rattle.hb_reader.specs.declared.structures.StructureRow.TheVariants as structures
use Rattle.hb_reader.specs.declared.fork.Fork.{Fork}
use Rattle.hb_reader.specs.declared.fork.Fork.TheVariants as forks
use Rattle.hb_reader.specs.Rows.{taking, head_row, query_row, carrier_row, builders_row, structure_row, forking, row}
use Rattle.hb_reader.specs.declared.need.Need.{Need}
use Rattle.hb_reader.specs.declared.need.Need.TheVariants.{Nothing, Whole, First, Both}
use Rattle.hb_reader.specs.Needs.{Agree}

abbrev pub sign_of : NameId → NameId → ℕ → Span → Sign
sign_of a f n p = record { whole = a; first = f; value = n; place = p }

-- a step reads no number
abbrev pub Blind : plain.State → Mark → Type 0
Blind s m = (a b f g : NameId) (n : ℕ) (p : Span) → plain.step s m (sign_of a f n p) ≡ plain.step s m (sign_of b g n p)

-- a step reads the number of the whole alone, or of the first part
abbrev pub ByWhole : plain.State → Mark → Type 0
ByWhole s m = (a f g : NameId) (n : ℕ) (p : Span) → plain.step s m (sign_of a f n p) ≡ plain.step s m (sign_of a g n p)

abbrev pub ByFirst : plain.State → Mark → Type 0
ByFirst s m = (a b f : NameId) (n : ℕ) (p : Span) → plain.step s m (sign_of a f n p) ≡ plain.step s m (sign_of b f n p)

-- a token that isn't the one that has to come
pub pair_code : (s : Second) → plain.same Ident (Pair s) ≡ false
pair_code second.Plain = refl
pair_code second.Build = refl
pair_code second.Carried = refl
pair_code second.Mixin = refl
pair_code second.Factory = refl
pair_code second.Builders = refl
pair_code second.End = refl
pair_code second.Structure = refl
pair_code second.Instance = refl
pair_code second.Join = refl
pair_code second.Find = refl
pair_code second.Howto = refl
pair_code second.About = refl

pub not_ident : (m : Mark) → (m ≡ Ident → ⊥) → plain.same Ident m ≡ false
not_ident Ident n = absurd (n refl)
not_ident (Pair s) n = pair_code s
not_ident _ n = refl

abbrev pub head_state : HeadRow → plain.State
head_state r = taking (head_row r)

abbrev pub query_state : QueryRow → plain.State
query_state r = taking (query_row r)

abbrev pub carrier_state : CarrierRow → plain.State
carrier_state r = taking (carrier_row r)

abbrev pub builders_state : BuildersRow → plain.State
builders_state r = taking (builders_row r)

abbrev pub structure_state : StructureRow → plain.State
structure_state r = taking (structure_row r)

pub head_blind : (r : HeadRow) (m : Mark) → plain.same Ident m ≡ false → Blind (head_state r) m
head_blind (heads.AxiomName x) m e a b f g n p = rw e refl
head_blind (heads.AxiomColon x k) m e a b f g n p = refl
head_blind (heads.DefinitionName x) m e a b f g n p = rw e refl

pub head_whole : (r : HeadRow) → ByWhole (head_state r) Ident
head_whole (heads.AxiomName x) a f g n p = refl
head_whole (heads.AxiomColon x k) a f g n p = refl
head_whole (heads.DefinitionName x) a f g n p = refl

pub query_blind : (r : QueryRow) (m : Mark) → plain.same Ident m ≡ false → Blind (query_state r) m
query_blind (queries.JoinFirst x) m e a b f g n p = rw e refl
query_blind (queries.JoinSecond x k) m e a b f g n p = rw e refl
query_blind (queries.FindStructure x) m e a b f g n p = rw e refl
query_blind (queries.RequireImported x) m e a b f g n p = rw e refl
query_blind (queries.HowtoFirst x) m e a b f g n p = rw e refl
query_blind (queries.HowtoSecond x k) m e a b f g n p = rw e refl
query_blind (queries.AboutName x) m e a b f g n p = rw e refl

pub query_whole : (r : QueryRow) → ByWhole (query_state r) Ident
query_whole (queries.JoinFirst x) a f g n p = refl
query_whole (queries.JoinSecond x k) a f g n p = refl
query_whole (queries.FindStructure x) a f g n p = refl
query_whole (queries.RequireImported x) a f g n p = refl
query_whole (queries.HowtoFirst x) a f g n p = refl
query_whole (queries.HowtoSecond x k) a f g n p = refl
query_whole (queries.AboutName x) a f g n p = refl

pub carrier_blind : (r : CarrierRow) (m : Mark) → plain.same Ident m ≡ false → Blind (carrier_state r) m
carrier_blind (carriers.RecordWord h x) m e a b f g n p = refl
carrier_blind (carriers.RecordName h x) m e a b f g n p = rw e refl
carrier_blind (carriers.BuildersContext x) m e a b f g n p = refl
carrier_blind (carriers.Name o) m e a b f g n p = rw e refl
carrier_blind (carriers.Colon o k) m e a b f g n p = refl
carrier_blind (carriers.Universe o k) m e a b f g n p = refl
carrier_blind (carriers.Close o k) m e a b f g n p = refl

pub carrier_whole : (r : CarrierRow) → ByWhole (carrier_state r) Ident
carrier_whole (carriers.RecordWord h x) a f g n p = refl
carrier_whole (carriers.RecordName h x) a f g n p = refl
carrier_whole (carriers.BuildersContext x) a f g n p = refl
carrier_whole (carriers.Name o) a f g n p = refl
carrier_whole (carriers.Colon o k) a f g n p = refl
carrier_whole (carriers.Universe o k) a f g n p = refl
carrier_whole (carriers.Close o k) a f g n p = refl

pub builders_blind : (r : BuildersRow) (m : Mark) → plain.same Ident m ≡ false → Blind (builders_state r) m
builders_blind (buildings.Var x c) m e a b f g n p = rw e refl
builders_blind (buildings.Colon x c v) m e a b f g n p = refl
builders_blind (buildings.Factory x c v) m e a b f g n p = rw e refl
builders_blind (buildings.Item x c v k) m e a b f g n p = rw e refl
builders_blind (buildings.Close x c v i) m e a b f g n p = refl
builders_blind (buildings.OfFactory x c) m e a b f g n p = rw e refl
builders_blind (buildings.OfItem x c k) m e a b f g n p = rw e refl

pub builders_whole : (r : BuildersRow) → ByWhole (builders_state r) Ident
builders_whole (buildings.Var x c) a f g n p = refl
builders_whole (buildings.Colon x c v) a f g n p = refl
builders_whole (buildings.Factory x c v) a f g n p = refl
builders_whole (buildings.Item x c v k) a f g n p = refl
builders_whole (buildings.Close x c v i) a f g n p = refl
builders_whole (buildings.OfFactory x c) a f g n p = refl
builders_whole (buildings.OfItem x c k) a f g n p = refl

pub structure_blind : (r : StructureRow) (m : Mark) → plain.same Ident m ≡ false → Blind (structure_state r) m
structure_blind (structures.Definition x) m e a b f g n p = refl
structure_blind (structures.Name x) m e a b f g n p = rw e refl
structure_blind (structures.Becomes x k) m e a b f g n p = refl
structure_blind (structures.Brace x k) m e a b f g n p = refl
structure_blind (structures.Carrier x k) m e a b f g n p = rw e refl
structure_blind (structures.Of x k c) m e a b f g n p = refl
structure_blind (structures.Instance x) m e a b f g n p = refl

pub structure_whole : (r : StructureRow) → ByWhole (structure_state r) Ident
structure_whole (structures.Definition x) a f g n p = refl
structure_whole (structures.Name x) a f g n p = refl
structure_whole (structures.Becomes x k) a f g n p = refl
structure_whole (structures.Brace x k) a f g n p = refl
structure_whole (structures.Carrier x k) a f g n p = refl
structure_whole (structures.Of x k c) a f g n p = refl
structure_whole (structures.Instance x) a f g n p = refl

pub fork_blind : (r : Fork) (m : Mark) → plain.same Ident m ≡ false → Blind (forking r) m
fork_blind (forks.Carrier o) m e a b f g n p = rw e refl
fork_blind (forks.Carried h x k c) m e a b f g n p = refl
fork_blind (forks.Builders x c) m e a b f g n p = refl
fork_blind (forks.InstanceName x) m e a b f g n p = rw e refl
fork_blind (forks.Require x) m e a b f g n p = rw e refl

pub fork_whole : (r : Fork) → ByWhole (forking r) Ident
fork_whole (forks.Carrier o) a f g n p = refl
fork_whole (forks.Carried h x k c) a f g n p = refl
fork_whole (forks.Builders x c) a f g n p = refl
fork_whole (forks.InstanceName x) a f g n p = refl
fork_whole (forks.Require x) a f g n p = refl

pub row_blind : (r : Row) (m : Mark) → plain.same Ident m ≡ false → Blind (row r) m
row_blind (rows.Head r) = head_blind r
row_blind (rows.Query r) = query_blind r
row_blind (rows.Carrier r) = carrier_blind r
row_blind (rows.Builders r) = builders_blind r
row_blind (rows.Structure r) = structure_blind r
row_blind (rows.Fork r) = fork_blind r

pub row_whole : (r : Row) → ByWhole (row r) Ident
row_whole (rows.Head r) = head_whole r
row_whole (rows.Query r) = query_whole r
row_whole (rows.Carrier r) = carrier_whole r
row_whole (rows.Builders r) = builders_whole r
row_whole (rows.Structure r) = structure_whole r
row_whole (rows.Fork r) = fork_whole r

-- signs that agree
pub blind_alike : (s : plain.State) (m : Mark) → Blind s m → (w v : Sign) → w.value ≡ v.value → w.place ≡ v.place
    → plain.step s m w ≡ plain.step s m v
blind_alike s m h w v e f =
    h w.whole v.whole w.first v.first w.value w.place
    ∙ (ap (λ n. plain.step s m (sign_of v.whole v.first n w.place)) e ∙ ap (λ p. plain.step s m (sign_of v.whole v.first v.value p)) f)

pub whole_alike : (s : plain.State) (m : Mark) → ByWhole s m → (w v : Sign) → w.value ≡ v.value → w.place ≡ v.place → w.whole ≡ v.whole
    → plain.step s m w ≡ plain.step s m v
whole_alike s m h w v e f g =
    h w.whole w.first v.first w.value w.place
    ∙ (ap (λ n. plain.step s m (sign_of w.whole v.first n w.place)) e
    ∙ (ap (λ p. plain.step s m (sign_of w.whole v.first v.value p)) f ∙ ap (λ a. plain.step s m (sign_of a v.first v.value v.place)) g))

pub first_alike : (s : plain.State) (m : Mark) → ByFirst s m → (w v : Sign) → w.value ≡ v.value → w.place ≡ v.place → w.first ≡ v.first
    → plain.step s m w ≡ plain.step s m v
first_alike s m h w v e f g =
    h w.whole v.whole w.first w.value w.place
    ∙ (ap (λ n. plain.step s m (sign_of v.whole w.first n w.place)) e
    ∙ (ap (λ p. plain.step s m (sign_of v.whole w.first v.value p)) f ∙ ap (λ a. plain.step s m (sign_of v.whole a v.value v.place)) g))

pub both_alike : (s : plain.State) (m : Mark) (w v : Sign) → w.value ≡ v.value → w.place ≡ v.place → w.whole ≡ v.whole → w.first ≡ v.first
    → plain.step s m w ≡ plain.step s m v
both_alike s m w v e f g h =
    ap (λ n. plain.step s m (sign_of w.whole w.first n w.place)) e
    ∙ (ap (λ p. plain.step s m (sign_of w.whole w.first v.value p)) f
    ∙ (ap (λ a. plain.step s m (sign_of a w.first v.value v.place)) g ∙ ap (λ a. plain.step s m (sign_of v.whole a v.value v.place)) h))

-- what agrees in a need
pub agree_blind : (n : Need) (w v : Sign) → Agree n w v → (w.value ≡ v.value) × (w.place ≡ v.place)
agree_blind Nothing w v a = a
agree_blind Whole w v a = (a.0, a.1)
agree_blind First w v a = (a.0, a.1)
agree_blind Both w v a = (a.0, a.1)

pub agree_whole : (n : Need) (w v : Sign) → n ≡ Whole → Agree n w v → (w.value ≡ v.value) × (w.place ≡ v.place) × (w.whole ≡ v.whole)
agree_whole Whole w v e a = a
agree_whole Nothing w v e a = absurd (cc)
agree_whole First w v e a = absurd (cc)
agree_whole Both w v e a = absurd (cc)
