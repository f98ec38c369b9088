-- Signs of one token that differ in numbers which a step doesn't read lead to the same state.
use Rattle.std.proofs.Common.{◌≡◌, ℕ, false, List, refl}
use Rattle.hb_base.specs.declared.span.Span.{Span}
use Rattle.hb_raw.specs.declared.word.Word.{Word}
use Rattle.hb_raw.specs.Preterm.{Preterm, Group}
use Rattle.hb_grammar.specs.declared.mark.Mark.{Mark}
use Rattle.hb_grammar.specs.declared.mark.Mark.TheVariants.{Ident, Pair, Axiom, Definition, Require, Hole, Open, Close, Unbrace, Colon}
use Rattle.hb_grammar.specs.declared.mark.Second.{Second}
use Rattle.hb_grammar.specs.declared.mark.Second.TheVariants as second
use Rattle.hb_grammar.specs.Leaf.{Sign}
use Rattle.hb_grammar.specs.Grammar.{Bounds}
use Rattle.hb_grammar.specs.Machine as plain
use Rattle.hb_reader.specs.declared.row.Row.{Row}
use Rattle.hb_reader.specs.declared.row.Row.TheVariants as rows
use Rattle.hb_reader.specs.declared.term.TermState.{TermState}
use Rattle.hb_reader.specs.declared.term.TermState.TheVariants as terms
use Rattle.hb_reader.specs.declared.binder.BinderState.{BinderState}
use Rattle.hb_reader.specs.declared.binder.BinderState.TheVariants as binders
use Rattle.hb_reader.specs.declared.listing.ListState.{ListState}
use Rattle.hb_reader.specs.declared.listing.ListState.TheVariants as lists
use Rattle.hb_reader.specs.declared.frame.InstanceOf.{InstanceOf}
use Rattle.hb_reader.specs.declared.instance.InstanceState.{InstanceState}
use Rattle.hb_reader.specs.declared.instance.InstanceState.TheVariants as instances
use Rattle.hb_reader.specs.declared.kind.Kind.{Kind}
use Rattle.hb_reader.specs.declared.kind.Kind.TheVariants as kinds
use Rattle.hb_reader.specs.Rows.{row}
use Rattle.hb_reader.specs.declared.need.Need.TheVariants.{Whole}
use Rattle.hb_reader.specs.Needs.{Agree, need, row_need}
use Rattle.hb_reader.specs.States.{term_state, binder_state, list_state, instance_state, kind}
use Rattle.hb_reader.proofs.AlikeRows.{Blind, ByWhole, pair_code, not_ident, row_blind, row_whole, blind_alike, whole_alike, first_alike, both_alike, agree_blind, agree_whole}
use Rattle.hb_reader.proofs.AlikeTerms.{NoName, term_blind, term_name, term_pair}

-- binders
first_blind : (h : plain.Binding) (m : Mark) → (m ≡ Ident → ⊥) → Blind (plain.binders h) m
first_blind h Ident e a b f g n p = absurd (e refl)
first_blind h Hole e a b f g n p = refl
first_blind h Open e a b f g n p = refl
first_blind h _ e a b f g n p = refl

bares_blind : (h : plain.Binding) (xs : Bounds) (m : Mark) → (m ≡ Ident → ⊥) → Blind (plain.bares h xs) m
bares_blind h xs Ident e a b f g n p = absurd (e refl)
bares_blind h xs Hole e a b f g n p = refl
bares_blind h xs Open e a b f g n p = refl
bares_blind (plain.of_product x k) xs Colon e a b f g n p = refl
bares_blind (plain.of_function x k) xs Colon e a b f g n p = refl
bares_blind (plain.of_definition x w) xs Colon e a b f g n p = refl
bares_blind (plain.of_product x k) xs _ e a b f g n p = refl
bares_blind (plain.of_function x k) xs _ e a b f g n p = refl
bares_blind (plain.of_definition x w) xs _ e a b f g n p = refl

groups_blind : (h : plain.Binding) (gs : List Group) (c : ℕ) (m : Mark) → (m ≡ Ident → ⊥) → Blind (plain.groups h gs c) m
groups_blind h gs c Ident e a b f g n p = absurd (e refl)
groups_blind h gs c Hole e a b f g n p = refl
groups_blind h gs c Open e a b f g n p = refl
groups_blind h gs c _ e a b f g n p = refl

opened_blind : (h : plain.Binding) (gs : List Group) (c : ℕ) (m : Mark) → (m ≡ Ident → ⊥) → Blind (plain.group_opened h gs c) m
opened_blind h gs c Ident e a b f g n p = absurd (e refl)
opened_blind h gs c Hole e a b f g n p = refl
opened_blind h gs c _ e a b f g n p = refl

names_blind : (h : plain.Binding) (gs : List Group) (c : ℕ) (xs : Bounds) (m : Mark) → (m ≡ Ident → ⊥) → Blind (plain.group_names h gs c xs) m
names_blind h gs c xs Ident e a b f g n p = absurd (e refl)
names_blind h gs c xs Hole e a b f g n p = refl
names_blind h gs c xs Colon e a b f g n p = refl
names_blind h gs c xs _ e a b f g n p = refl

binder_blind : (s : BinderState) (m : Mark) → (m ≡ Ident → ⊥) → Blind (binder_state s) m
binder_blind (binders.First h) m e = first_blind _ m e
binder_blind (binders.Bares h xs) m e = bares_blind _ _ m e
binder_blind (binders.Groups h gs) m e = groups_blind _ _ _ m e
binder_blind (binders.Opened h gs) m e = opened_blind _ _ _ m e
binder_blind (binders.Names h gs xs) m e = names_blind _ _ _ _ m e

binder_whole : (s : BinderState) → ByWhole (binder_state s) Ident
binder_whole (binders.First h) a f g n p = refl
binder_whole (binders.Bares h xs) a f g n p = refl
binder_whole (binders.Groups h gs) a f g n p = refl
binder_whole (binders.Opened h gs) a f g n p = refl
binder_whole (binders.Names h gs xs) a f g n p = refl

-- items and fields
fields_blind : (r : plain.RecordOf) (fs : List (Word × Preterm)) (m : Mark) → (m ≡ Ident → ⊥) → Blind (plain.fields r fs) m
fields_blind r fs Ident e a b f g n p = absurd (e refl)
fields_blind r fs Unbrace e a b f g n p = refl
fields_blind r fs _ e a b f g n p = refl

list_blind : (s : ListState) (m : Mark) → (m ≡ Ident → ⊥) → Blind (list_state s) m
list_blind (lists.Factory l is) m e = λ a b f g n p. rw (not_ident m e) refl
list_blind (lists.Carrier l is w) m e = λ a b f g n p. rw (not_ident m e) refl
list_blind (lists.Items l is) m e = λ a b f g n p. refl
list_blind (lists.ItemOrEnd x k c is) m e = λ a b f g n p. rw (not_ident m e) refl
list_blind (lists.Brace r) m e = λ a b f g n p. refl
list_blind (lists.Fields r fs) m e = fields_blind _ _ m e
list_blind (lists.Colon r fs w) m e = λ a b f g n p. refl

list_whole : (s : ListState) → ByWhole (list_state s) Ident
list_whole (lists.Factory l is) a f g n p = refl
list_whole (lists.Carrier l is w) a f g n p = refl
list_whole (lists.Items l is) a f g n p = refl
list_whole (lists.ItemOrEnd x k c is) a f g n p = refl
list_whole (lists.Brace r) a f g n p = refl
list_whole (lists.Fields r fs) a f g n p = refl
list_whole (lists.Colon r fs w) a f g n p = refl

-- instances
names_of_blind : (i : plain.InstanceOf) (ws : List Word) (m : Mark) → (m ≡ Ident → ⊥) → Blind (plain.condition_names i ws) m
names_of_blind i ws Ident e a b f g n p = absurd (e refl)
names_of_blind i ws Colon e a b f g n p = refl
names_of_blind i ws _ e a b f g n p = refl

placing_blind : (q : plain.Placing) (m : Mark) → (m ≡ Ident → ⊥) → Blind (plain.placing q) m
placing_blind q Ident e a b f g n p = absurd (e refl)
placing_blind q Open e a b f g n p = refl
placing_blind q _ e a b f g n p = refl

place_names_blind : (q : plain.Placing) (x : Span) (k : Word) (ws : List Word) (m : Mark) → (m ≡ Ident → ⊥) → Blind (plain.place_names q x k ws) m
place_names_blind q x k ws Ident e a b f g n p = absurd (e refl)
place_names_blind q x k ws Close e a b f g n p = refl
place_names_blind q x k ws _ e a b f g n p = refl

pair_ident : (s : Second) → Pair s ≡ Ident → ⊥
pair_ident s e = absurd (cc)

not_carried : (m : Mark) → ((s : Second) → m ≡ Pair s → ⊥) → plain.same (Pair second.Carried) m ≡ false
not_carried (Pair s) n = absurd (n s refl)
not_carried _ n = refl

not_build : (m : Mark) → ((s : Second) → m ≡ Pair s → ⊥) → plain.same (Pair second.Build) m ≡ false
not_build (Pair s) n = absurd (n s refl)
not_build _ n = refl

instance_blind : (s : InstanceState) (m : Mark) → NoName m → Blind (instance_state s) m
instance_blind (instances.Conditioned i) m e = λ a b f g n p. refl
instance_blind (instances.Name i) m e = λ a b f g n p. rw (not_ident m e.0) refl
instance_blind (instances.Names i ws) m e = names_of_blind _ _ m e.0
instance_blind (instances.Type i ws) m e = λ a b f g n p. rw (not_carried m e.1) refl
instance_blind (instances.Close i ws s) m e = λ a b f g n p. refl
instance_blind (instances.Factory i) m e = λ a b f g n p. rw (not_ident m e.0) refl
instance_blind (instances.Build i) m e = λ a b f g n p. rw (not_build m e.1) refl
instance_blind (instances.Placing q) m e = placing_blind _ m e.0
instance_blind (instances.PlaceName q x) m e = λ a b f g n p. rw (not_ident m e.0) refl
instance_blind (instances.PlaceNames q x k ws) m e = place_names_blind _ x k _ m e.0
instance_blind (instances.Becomes i w k ws) m e = λ a b f g n p. refl

instance_whole : (s : InstanceState) → ByWhole (instance_state s) Ident
instance_whole (instances.Conditioned i) a f g n p = refl
instance_whole (instances.Name i) a f g n p = refl
instance_whole (instances.Names i ws) a f g n p = refl
instance_whole (instances.Type i ws) a f g n p = refl
instance_whole (instances.Close i ws s) a f g n p = refl
instance_whole (instances.Factory i) a f g n p = refl
instance_whole (instances.Build i) a f g n p = refl
instance_whole (instances.Placing q) a f g n p = refl
instance_whole (instances.PlaceName q x) a f g n p = refl
instance_whole (instances.PlaceNames q x k ws) a f g n p = refl
instance_whole (instances.Becomes i w k ws) a f g n p = refl

begin_blind : (m : Mark) → Blind plain.begin m
begin_blind Axiom a b f g n p = refl
begin_blind Definition a b f g n p = refl
begin_blind Require a b f g n p = refl
begin_blind (Pair s) a b f g n p = refl
begin_blind _ a b f g n p = refl

kind_blind : (k : Kind) (m : Mark) → NoName m → Blind (kind k) m
kind_blind kinds.Begin m e = begin_blind m
kind_blind (kinds.Done c) m e = λ a b f g n p. refl
kind_blind (kinds.Finish c) m e = λ a b f g n p. refl
kind_blind (kinds.Row r) m e = row_blind r m (not_ident m e.0)
kind_blind (kinds.Term t) m e = term_blind t m e
kind_blind (kinds.Binder s) m e = binder_blind s m e.0
kind_blind (kinds.List s) m e = list_blind s m e.0
kind_blind (kinds.Instance s) m e = instance_blind s m e

row_ident : (r : Row) → need (row r) Ident ≡ Whole
row_ident (rows.Head r) = refl
row_ident (rows.Query r) = refl
row_ident (rows.Carrier r) = refl
row_ident (rows.Builders r) = refl
row_ident (rows.Structure r) = refl
row_ident (rows.Fork r) = refl

term_ident : (t : TermState) → need (term_state t) Ident ≡ Whole
term_ident (terms.Want h k) = refl
term_ident (terms.Have h t u k) = refl
term_ident (terms.More h k) = refl
term_ident (terms.Bare h x k) = refl
term_ident (terms.UniverseAt h t x k) = refl
term_ident (terms.Level h t k) = refl
term_ident (terms.LevelClose h t v k) = refl
term_ident (terms.Projecting h t k) = refl
term_ident (terms.ProjectClose h t v k) = refl

binder_ident : (s : BinderState) → need (binder_state s) Ident ≡ Whole
binder_ident (binders.First h) = refl
binder_ident (binders.Bares h xs) = refl
binder_ident (binders.Groups h gs) = refl
binder_ident (binders.Opened h gs) = refl
binder_ident (binders.Names h gs xs) = refl

list_ident : (s : ListState) → need (list_state s) Ident ≡ Whole
list_ident (lists.Factory l is) = refl
list_ident (lists.Carrier l is w) = refl
list_ident (lists.Items l is) = refl
list_ident (lists.ItemOrEnd x k c is) = refl
list_ident (lists.Brace r) = refl
list_ident (lists.Fields r fs) = refl
list_ident (lists.Colon r fs w) = refl

instance_ident : (s : InstanceState) → need (instance_state s) Ident ≡ Whole
instance_ident (instances.Conditioned i) = refl
instance_ident (instances.Name i) = refl
instance_ident (instances.Names i ws) = refl
instance_ident (instances.Type i ws) = refl
instance_ident (instances.Close i ws s) = refl
instance_ident (instances.Factory i) = refl
instance_ident (instances.Build i) = refl
instance_ident (instances.Placing q) = refl
instance_ident (instances.PlaceName q x) = refl
instance_ident (instances.PlaceNames q x k ws) = refl
instance_ident (instances.Becomes i w k ws) = refl

ident_alike : (k : Kind) (w v : Sign) → Agree (need (kind k) Ident) w v → plain.step (kind k) Ident w ≡ plain.step (kind k) Ident v
ident_alike kinds.Begin w v a = blind_alike plain.begin Ident (begin_blind Ident) w v a.0 a.1
ident_alike (kinds.Done c) w v a = refl
ident_alike (kinds.Finish c) w v a = refl
ident_alike (kinds.Row r) w v a =
    let b = agree_whole (need (row r) Ident) w v (row_ident r) a in whole_alike (row r) Ident (row_whole r) w v b.0 b.1 b.2
ident_alike (kinds.Term t) w v a =
    let b = agree_whole (need (term_state t) Ident) w v (term_ident t) a in
    whole_alike (term_state t) Ident (term_name t) w v b.0 b.1 b.2
ident_alike (kinds.Binder s) w v a =
    let b = agree_whole (need (binder_state s) Ident) w v (binder_ident s) a in
    whole_alike (binder_state s) Ident (binder_whole s) w v b.0 b.1 b.2
ident_alike (kinds.List s) w v a =
    let b = agree_whole (need (list_state s) Ident) w v (list_ident s) a in
    whole_alike (list_state s) Ident (list_whole s) w v b.0 b.1 b.2
ident_alike (kinds.Instance s) w v a =
    let b = agree_whole (need (instance_state s) Ident) w v (instance_ident s) a in
    whole_alike (instance_state s) Ident (instance_whole s) w v b.0 b.1 b.2

-- names of two parts
term_alike : (t : TermState) (q : Second) (w v : Sign) → Agree (need (term_state t) (Pair q)) w v
    → plain.step (term_state t) (Pair q) w ≡ plain.step (term_state t) (Pair q) v
term_alike (terms.Want h k) q w v a = whole_alike (term_state (terms.Want h k)) (Pair q) (term_pair (terms.Want h k) q) w v a.0 a.1 a.2
term_alike (terms.Have h t u k) q w v a = whole_alike (term_state (terms.Have h t u k)) (Pair q) (term_pair (terms.Have h t u k) q) w v a.0 a.1 a.2
term_alike (terms.More h k) q w v a = whole_alike (term_state (terms.More h k)) (Pair q) (term_pair (terms.More h k) q) w v a.0 a.1 a.2
term_alike (terms.Bare h x k) q w v a = whole_alike (term_state (terms.Bare h x k)) (Pair q) (term_pair (terms.Bare h x k) q) w v a.0 a.1 a.2
term_alike (terms.UniverseAt h t x k) q w v a =
    whole_alike (term_state (terms.UniverseAt h t x k)) (Pair q) (term_pair (terms.UniverseAt h t x k) q) w v a.0 a.1 a.2
term_alike (terms.Projecting h t k) q w v a =
    whole_alike (term_state (terms.Projecting h t k)) (Pair q) (term_pair (terms.Projecting h t k) q) w v a.0 a.1 a.2
term_alike (terms.Level h t k) q w v a =
    let b = agree_blind (row_need (Pair q)) w v a in
    blind_alike (term_state (terms.Level h t k)) (Pair q) (λ x y f g n p. refl) w v b.0 b.1
term_alike (terms.LevelClose h t u k) q w v a =
    let b = agree_blind (row_need (Pair q)) w v a in
    blind_alike (term_state (terms.LevelClose h t u k)) (Pair q) (λ x y f g n p. refl) w v b.0 b.1
term_alike (terms.ProjectClose h t u k) q w v a =
    let b = agree_blind (row_need (Pair q)) w v a in
    blind_alike (term_state (terms.ProjectClose h t u k)) (Pair q) (λ x y f g n p. refl) w v b.0 b.1

condition_alike : (i : plain.InstanceOf) (ws : List Word) (q : Second) (w v : Sign) → Agree (row_need (Pair q)) w v
    → plain.step (plain.condition_typed i ws) (Pair q) w ≡ plain.step (plain.condition_typed i ws) (Pair q) v
condition_alike i ws second.Carried w v a =
    first_alike (plain.condition_typed i ws) (Pair second.Carried) (λ x y f n p. refl) w v a.0 a.1 a.2
condition_alike i ws _ w v a = refl

builder_alike : (i : InstanceOf) (q : Second) (w v : Sign) → Agree (row_need (Pair q)) w v
    → plain.step (instance_state (instances.Build i)) (Pair q) w ≡ plain.step (instance_state (instances.Build i)) (Pair q) v
builder_alike i second.Build w v a =
    both_alike (instance_state (instances.Build i)) (Pair second.Build) w v a.0 a.1 a.2 a.3
builder_alike i _ w v a = refl

instance_alike : (s : InstanceState) (q : Second) (w v : Sign) → Agree (need (instance_state s) (Pair q)) w v
    → plain.step (instance_state s) (Pair q) w ≡ plain.step (instance_state s) (Pair q) v
instance_alike (instances.Conditioned i) q w v a = refl
instance_alike (instances.Name i) q w v a = rw (pair_code q) refl
instance_alike (instances.Names i ws) q w v a = refl
instance_alike (instances.Type i ws) q w v a = condition_alike _ _ q w v a
instance_alike (instances.Close i ws s) q w v a = refl
instance_alike (instances.Factory i) q w v a = rw (pair_code q) refl
instance_alike (instances.Build i) q w v a = builder_alike i q w v a
instance_alike (instances.Placing p) q w v a = refl
instance_alike (instances.PlaceName p x) q w v a = rw (pair_code q) refl
instance_alike (instances.PlaceNames p x k ws) q w v a = refl
instance_alike (instances.Becomes i u k ws) q w v a = refl

pair_alike : (k : Kind) (q : Second) (w v : Sign) → Agree (need (kind k) (Pair q)) w v
    → plain.step (kind k) (Pair q) w ≡ plain.step (kind k) (Pair q) v
pair_alike kinds.Begin q w v a = blind_alike plain.begin (Pair q) (begin_blind (Pair q)) w v a.0 a.1
pair_alike (kinds.Done c) q w v a = refl
pair_alike (kinds.Finish c) q w v a = refl
pair_alike (kinds.Row r) q w v a =
    let b = agree_blind (need (row r) (Pair q)) w v a in
    blind_alike (row r) (Pair q) (row_blind r (Pair q) (pair_code q)) w v b.0 b.1
pair_alike (kinds.Term t) q w v a = term_alike t q w v a
pair_alike (kinds.Binder s) q w v a =
    let b = agree_blind (need (binder_state s) (Pair q)) w v a in
    blind_alike (binder_state s) (Pair q) (binder_blind s (Pair q) (pair_ident q)) w v b.0 b.1
pair_alike (kinds.List s) q w v a =
    let b = agree_blind (need (list_state s) (Pair q)) w v a in
    blind_alike (list_state s) (Pair q) (list_blind s (Pair q) (pair_ident q)) w v b.0 b.1
pair_alike (kinds.Instance s) q w v a = instance_alike s q w v a

pub alike : (k : Kind) (m : Mark) (w v : Sign) → Agree (need (kind k) m) w v → plain.step (kind k) m w ≡ plain.step (kind k) m v
alike k Ident w v a = ident_alike k w v a
alike k (Pair q) w v a = pair_alike k q w v a
alike k m w v a =
    let b = agree_blind (need (kind k) m) w v a in
    blind_alike (kind k) m (kind_blind k m ((λ e. cc), (λ s e. cc))) w v b.0 b.1
