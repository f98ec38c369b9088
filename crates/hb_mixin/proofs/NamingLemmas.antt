-- Names of records and of their fields.
use Rattle.std.proofs.Common.{◌≡◌, ℕ, zero, suc, ◌+◌, ◌<◌, ◌∙◌, refl, sym, ap, subst, arith, List, [], ◌∷◌, ◌++◌, length, map, take, get_or, Some, None, slice_get, codes}
use Rattle.hb_base.specs.declared.name_id.NameId.{NameId}
use Rattle.hb_base.specs.Names.{with_name, NumbersAreUnique}
use Rattle.hb_calculus.specs.Declarations.{Decl, an_axiom, names_of, field_names}
use Rattle.hb_env.specs.Plain.{plain_fields}
use Rattle.hb_generated.specs.Generating.{gen, gen_record, own_fields}
use Rattle.hb_generated.specs.Names.{number, followed, text_of}
use Rattle.hb_generated.specs.State.{State, Own, decls}
use Rattle.hb_hier.specs.Hierarchy.{Hierarchy, brought}
use Rattle.hb_env.specs.declared.entry.Head.TheVariants as heads
use Rattle.hb_mixin.specs.Adding.{making, with_kind, IsLoaded}
use Rattle.hb_mixin.specs.Declaring.{AreMade, HasDeclaredOf}
use Rattle.std.specs.Global.{Vec}
use Rattle.hb_mixin.specs.Fields.{AreNamesOf, AreFirstNames}
use Rattle.hb_mixin.specs.Naming.{IsFollowed, IsMakerName, IsFieldName, AreFieldNames, IsRecordNamed}
use Rattle.hb_mixin.specs.declared.declaring.Kind.{Kind}
use Rattle.hb_mixin.specs.declared.declaring.Kind.TheVariants.{Mixin, Factory}
use Rattle.hb_pack.proofs.NamingLemmas.{number_in, text_in, same_prefix, followed_is}
use Rattle.hb_pack.specs.Packing.{IsRecordOf}
use Rattle.hb_tables.specs.Maps.{none}
use Rattle.hb_term.specs.Meaning.{tree}
use Rattle.hb_term.specs.declared.term.Term.{Term}
use Rattle.hb_tree.specs.Tree.{Tree, rel}
use Rattle.hb_world.specs.Taking.{Extends}

get_stays : (N more : List (List ℕ)) (n : ℕ) (t : List ℕ) → slice_get N n ≡ Some t → slice_get (N ++ more) n ≡ Some t
get_stays [] more n t h = absurd (cc)
get_stays (x ∷ N) more zero t h = h
get_stays (x ∷ N) more (suc n) t h = get_stays N more n t h

-- what is held stays
pub held_stays : (A B : List (List ℕ)) (n : ℕ) (t : List ℕ) → Extends A B → slice_get A n ≡ Some t → slice_get B n ≡ Some t
held_stays A B n t e h = ap (λ l. slice_get l n) e.1 ∙ get_stays A e.0 n t h

pub followed_stays : (A B : List (List ℕ)) (n : NameId) (word : List ℕ) (m : ℕ) → Extends A B → IsFollowed A n word m → IsFollowed B n word m
followed_stays A B n word m e f = (f.0, held_stays A B n.0 f.0 e f.1, held_stays A B m (f.0 ++ word) e f.2)

pub field_stays : (A B : List (List ℕ)) (n s : NameId) (f : ℕ) → Extends A B → IsFieldName A n s f → IsFieldName B n s f
field_stays A B n s f e h = (h.0, held_stays A B s.0 h.0 e h.1, followed_stays A B n (codes "." ++ h.0) f e h.2)

pub fields_stay : (A B : List (List ℕ)) (n : NameId) (ss : List NameId) (fs : List ℕ) → Extends A B → AreFieldNames A n ss fs → AreFieldNames B n ss fs
fields_stay A B n [] [] e h = tt
fields_stay A B n [] (f ∷ fs) e h = absurd h
fields_stay A B n (s ∷ ss) [] e h = absurd h
fields_stay A B n (s ∷ ss) (f ∷ fs) e h = (field_stays A B n s f e h.0, fields_stay A B n ss fs e h.1)

-- one more short name
first_more : (N : List (List ℕ)) (n : NameId) (own : List NameId) (fs : List (NameId × Term)) (s : NameId) (x : NameId × Term) → length own < length fs → x ≡ get_or fs (length own) x → IsFieldName N n s x.0.0 → AreFirstNames N n own fs → AreFirstNames N n (own ++ s ∷ []) fs
first_more N n [] [] s x lt e h all = absurd (omega (arith, lt))
first_more N n [] (f ∷ fs) s x lt e h all = (subst (λ y. IsFieldName N n s y.0.0) e h, tt)
first_more N n (o ∷ own) [] s x lt e h all = absurd (omega (arith, lt))
first_more N n (o ∷ own) (f ∷ fs) s x lt e h all = (all.0, first_more N n own fs s x (omega (arith, lt)) e h all.1)

pub first_stay : (A B : List (List ℕ)) (n : NameId) (own : List NameId) (fs : List (NameId × Term)) → Extends A B → AreFirstNames A n own fs → AreFirstNames B n own fs
first_stay A B n own fs e all = fields_stay A B n own (field_names (plain_fields (take (length own) fs))) e all

pub first_turn : (A B : List (List ℕ)) (n : NameId) (own : List NameId) (fs : List (NameId × Term)) (i : ℕ) (s : NameId) (x : NameId × Term) → i < length fs → length own ≡ i → x ≡ get_or fs i x → Extends A B → IsFieldName B n s x.0.0 → AreFirstNames A n own fs → AreFirstNames B n (own ++ s ∷ []) fs
first_turn A B n own fs i s x lt l e p h all =
    first_more B n own fs s x (omega (arith, lt, l)) (e ∙ ap (λ k. get_or fs k x) (sym l)) h (first_stay A B n own fs p all)

-- as many short names as fields
pub first_whole : (N : List (List ℕ)) (n : NameId) (own : List NameId) (fs : List (NameId × Term)) → length own ≡ length fs → AreFirstNames N n own fs → AreNamesOf N n own fs
first_whole N n [] [] e all = tt
first_whole N n [] (f ∷ fs) e all = absurd (omega (arith, e))
first_whole N n (o ∷ own) [] e all = absurd (omega (arith, e))
first_whole N n (o ∷ own) (f ∷ fs) e all = (all.0, first_whole N n own fs (let q : length own ≡ length fs = omega (arith, e) in q) all.1)

-- the fields by their short names
abbrev own_parts : List NameId → List (NameId × Term) → List (ℕ × Tree)
own_parts [] fs = []
own_parts (s ∷ ss) [] = []
own_parts (s ∷ ss) (f ∷ fs) = (s.0, tree f.1) ∷ own_parts ss fs

number_of : (N : List (List ℕ)) (n s : NameId) (f : ℕ) → NumbersAreUnique N → IsFieldName N n s f → followed N n.0 (codes "." ++ text_of N s.0) ≡ f
number_of N n s f u h =
    ap (λ t. followed N n.0 (codes "." ++ t)) (text_in N N s.0 h.0 h.1 (same_prefix N))
    ∙ followed_is N N N n.0 f h.2.0 (codes "." ++ h.0) (h.2.0 ++ (codes "." ++ h.0)) h.2.1 (same_prefix N) u h.2.2 refl (same_prefix N)

parts_are : (N : List (List ℕ)) (n : NameId) (ss : List NameId) (fs : List (NameId × Term)) → NumbersAreUnique N → AreNamesOf N n ss fs → own_fields N n.0 (own_parts ss fs) ≡ plain_fields fs
parts_are N n [] [] u h = refl
parts_are N n [] (f ∷ fs) u h = absurd h
parts_are N n (s ∷ ss) [] u h = absurd h
parts_are N n (s ∷ ss) (f ∷ fs) u h =
    ap (λ k. (k, tree f.1) ∷ own_fields N n.0 (own_parts ss fs)) (number_of N n s f.0.0 u h.0)
    ∙ ap (λ l. (f.0.0, tree f.1) ∷ l) (parts_are N n ss fs u h.1)

parts_named : (N : List (List ℕ)) (n : NameId) (ss : List NameId) (fs : List (NameId × Term)) → AreNamesOf N n ss fs → map (λ f. f.0) (own_parts ss fs) ≡ map (λ s. s.0) ss
parts_named N n [] [] h = refl
parts_named N n [] (f ∷ fs) h = absurd h
parts_named N n (s ∷ ss) [] h = absurd h
parts_named N n (s ∷ ss) (f ∷ fs) h = ap (λ l. s.0 ∷ l) (parts_named N n ss fs h.1)

abbrev names_of_first : List Decl → List ℕ
names_of_first [] = []
names_of_first (d ∷ ds) = names_of d

-- what is made of the names is what the command makes
pub made_is : (N : List (List ℕ)) (E : List Decl) (h : Hierarchy) (k : Kind) (items ss : List NameId) (n m : NameId) (level : ℕ) (fs : List (NameId × Term)) (d : Decl) → NumbersAreUnique N → IsMakerName N n m.0 → AreNamesOf N n ss fs
    → ((M : List (List ℕ)) (S : State) (o : Own) → IsRecordOf M S items o E h n.0 m.0 (brought h items) level (plain_fields fs) → d ∷ [] ≡ decls (gen_record M S items o))
    → AreMade N E h (making k items) n ss (d ∷ [])
made_is N E h k items ss n m level fs d u maker all gives =
    record {
      declared = d;
      only = refl;
      named = record { maker = m.0; fields = field_names (plain_fields fs); names_are = named; maker_is = maker; fields_are = all };
      own = own;
      own_name = refl;
      own_fields = parts_named N n ss fs all;
      made = made k;
    }
  where
    own : Own
    own = record { name = Some n.0; level = level; fields = own_parts ss fs; type_is = rel 0; body = rel 0; core = an_axiom 0 (rel 0) }

    over : State
    over = record { names = []; env = E; hier = h; tables = none; section = None; made = 0 }

    maker_is : followed N n.0 (codes ".Build") ≡ m.0
    maker_is = followed_is N N N n.0 m.0 maker.0 (codes ".Build") (maker.0 ++ codes ".Build") maker.1 (same_prefix N) u maker.2 refl (same_prefix N)

    is : (S : State) → S.env ≡ E → S.hier ≡ h → IsRecordOf N S items own E h n.0 m.0 (brought h items) level (plain_fields fs)
    is S e q = record { env = e; hier = q; name_is = refl; maker_is = maker_is; brought_is = refl; level_is = refl; fields_are = parts_are N n ss fs u all }

    named : names_of d ≡ n.0 ∷ m.0 ∷ field_names (plain_fields fs)
    named =
        ap names_of_first (gives N over own (is over refl refl))
        ∙ ap (λ k. n.0 ∷ k ∷ field_names (own_fields N n.0 (own_parts ss fs))) maker_is
        ∙ ap (λ l. n.0 ∷ m.0 ∷ field_names l) (parts_are N n ss fs u all)

    made : (k : Kind) (S : State) → S.env ≡ E → S.hier ≡ h → d ∷ [] ≡ decls (gen N S (making k items) own)
    made Mixin S e q = gives N S own (is S e q)
    made Factory S e q = gives N S own (is S e q)

-- an entry that is loaded as a mixin or a factory is one
pub mixin_loaded : (N : List (List ℕ)) (E ds : List Decl) (h g : Hierarchy) (is : List NameId) (v : Vec NameId) → is ≡ v.items → IsLoaded N E Mixin is ds h g → HasDeclaredOf N E (heads.Mixin v) ds h g
mixin_loaded N E ds h g is v e l = subst (λ js. IsLoaded N E Mixin js ds h g) e l

pub factory_loaded : (N : List (List ℕ)) (E ds : List Decl) (h g : Hierarchy) (is : List NameId) (v : Vec NameId) → is ≡ v.items → IsLoaded N E Factory is ds h g → HasDeclaredOf N E (heads.Factory v) ds h g
factory_loaded N E ds h g is v e l = subst (λ js. IsLoaded N E Factory js ds h g) e l

-- the same over what equals the hierarchy
pub loaded_from : (N : List (List ℕ)) (E ds : List Decl) (k : Kind) (is : List NameId) (h g f : Hierarchy) → g ≡ h → IsLoaded N E k is ds g f → IsLoaded N E k is ds h f
loaded_from N E ds k is h g f e l = subst (λ i. IsLoaded N E k is ds i f) e l

pub names_from : (N : List (List ℕ)) (n : NameId) (ss : List NameId) (fs gs : List (NameId × Term)) → plain_fields fs ≡ plain_fields gs → AreNamesOf N n ss gs → AreNamesOf N n ss fs
names_from N n ss fs gs e h = subst (λ l. AreFieldNames N n ss (field_names l)) (sym e) h

pub whole_stays : (A B : List (List ℕ)) (n : NameId) (own : List NameId) (fs : List (NameId × Term)) → length own ≡ length fs → Extends A B → AreFirstNames A n own fs → AreNamesOf B n own fs
whole_stays A B n own fs l e h = first_whole B n own fs l (first_stay A B n own fs e h)

-- what was made, and is the entry's, with the hierarchy after
pub loaded_is : (N : List (List ℕ)) (E E1 : List Decl) (ds es : List Decl) (k : Kind) (n : NameId) (is ss : List NameId) (h g f : Hierarchy) → E1 ≡ E → es ≡ ds → g ≡ h → AreMade N E1 h (making k is) n ss ds → f ≡ with_kind k g n is ss → IsLoaded N E k is es h f
loaded_is N E E1 ds es k n is ss h g f p q e m w =
    (n, ss, subst (λ l. AreMade N E h (making k is) n ss l) (sym q) (subst (λ F. AreMade N F h (making k is) n ss ds) p m), w ∙ ap (λ i. with_kind k i n is ss) e)
