-- Where an ask fails: how many variables there are at its place.
use Rattle.std.specs.Prelude.{ℕ, ◌+◌, List, length}
use Rattle.hb_tree.specs.Tree.{Tree}
use Rattle.hb_calculus.specs.Declarations.{Decl}
use Rattle.hb_calculus.specs.Budget.{Budget}
use Rattle.hb_calculus.specs.Inference.{Cause, Fails, fails_memory, fails_level, fails_domain, fails_domain_sort, fails_codomain, fails_codomain_sort, fails_binder, fails_binder_sort, fails_body, fails_function, fails_function_product, fails_argument, fails_argument_below, fails_projected, fails_projected_record}
use Rattle.hb_calculus.specs.Inference.{NotType, type_fails, type_sort, NotChecked, check_type, check_term, check_below, NotTypes, types_first, types_later}
use Rattle.hb_calculus.specs.Inference.{Refuses, refuses_axiom, refuses_definition, refuses_param, refuses_field, refuses_level}

-- in a term
abbrev pub place : {E : List Decl} {L : Budget} {G : List Tree} {t : Tree} {c : Cause} → Fails E L G t c → ℕ
place (fails_memory {G = G}) = length G
place (fails_level {G = G} h) = length G
place (fails_domain f) = place f
place (fails_domain_sort {G = G} p n) = length G
place (fails_codomain p h f) = place f
place (fails_codomain_sort {G = G} p h q n) = length G + 1
place (fails_binder f) = place f
place (fails_binder_sort {G = G} p n) = length G
place (fails_body p h f) = place f
place (fails_function f) = place f
place (fails_function_product {G = G} p n) = length G
place (fails_argument p h f) = place f
place (fails_argument_below {G = G} p h q n) = length G
place (fails_projected f) = place f
place (fails_projected_record {G = G} p n) = length G

-- in a type, in a term with its type, in types
abbrev pub type_place : {E : List Decl} {L : Budget} {G : List Tree} {t : Tree} {c : Cause} → NotType E L G t c → ℕ
type_place (type_fails f) = place f
type_place {G = G} (type_sort p n) = length G

abbrev pub check_place : {E : List Decl} {L : Budget} {G : List Tree} {t u : Tree} {c : Cause} → NotChecked E L G t u c → ℕ
check_place (check_type n) = type_place n
check_place (check_term s f) = place f
check_place {G = G} (check_below s p n) = length G

abbrev pub types_place : {E : List Decl} {L : Budget} {G ts : List Tree} {c : Cause} → NotTypes E L G ts c → ℕ
types_place (types_first n) = type_place n
types_place (types_later s n) = types_place n

-- in a declaration; the two levels of a record are closed
abbrev pub refuse_place : {E : List Decl} {L : Budget} {d : Decl} {c : Cause} → Refuses E L d c → ℕ
refuse_place (refuses_axiom n) = type_place n
refuse_place (refuses_definition n) = check_place n
refuse_place (refuses_param n) = types_place n
refuse_place (refuses_field ss p n) = types_place n
refuse_place (refuses_level ss ss' p q h e) = 0
