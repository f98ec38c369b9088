-- How the logic stores declarations: an axiom, a definition or a record as the tuple of its parts.
use Rattle.std.specs.Prelude.{◌≡◌, ℕ, List, ◌⊎◌, refl}
use Rattle.std.proofs.Common.{inl, inr}
use Rattle.std.specs.Coded.{Coded, code_by, coded×, coded⊎, coded_ℕ, coded_list}
use Rattle.hb_tree.specs.Tree.{Tree}
use Rattle.hb_tree.specs.Code.{coded_tree}
use Rattle.hb_calculus.specs.Declarations.{Decl, an_axiom, a_definition, a_record}

abbrev pub Parts : Type 0
Parts = (ℕ × Tree) ⊎ ((ℕ × (Tree × Tree)) ⊎ (ℕ × (ℕ × (List Tree × (ℕ × List (ℕ × Tree))))))

abbrev pub parts : Decl → Parts
parts (an_axiom n t) = inl (n, t)
parts (a_definition n t b) = inr (inl (n, (t, b)))
parts (a_record n m ps k fs) = inr (inr (n, (m, (ps, (k, fs)))))

abbrev pub from_parts : Parts → Decl
from_parts (inl p) = an_axiom p.0 p.1
from_parts (inr (inl p)) = a_definition p.0 p.1.0 p.1.1
from_parts (inr (inr p)) = a_record p.0 p.1.0 p.1.1.0 p.1.1.1.0 p.1.1.1.1

pub from_parts-parts : (d : Decl) → from_parts (parts d) ≡ d
from_parts-parts (an_axiom n t) = refl
from_parts-parts (a_definition n t b) = refl
from_parts-parts (a_record n m ps k fs) = refl

abbrev pub coded_decl : Coded Decl
coded_decl =
    code_by
    Parts
    (coded⊎ (coded× coded_ℕ coded_tree) (coded⊎ (coded× coded_ℕ (coded× coded_tree coded_tree)) (coded× coded_ℕ (coded× coded_ℕ (coded× (coded_list coded_tree) (coded× coded_ℕ (coded_list (coded× coded_ℕ coded_tree))))))))
    parts
    from_parts
    from_parts-parts

-- lists of declarations, with the way in which they are stored
abbrev pub coded_decls : Coded (List Decl)
coded_decls = coded_list coded_decl
