-- Declarations that are counted one after another.
use Rattle.std.proofs.Common.{◌≡◌, ℕ, ◌+◌, ◌<◌, ◌≤◌, List, [], ◌∷◌, ◌++◌, length, take, drop, sym, ap, ◌∙◌, append_assoc, slice_index_or, arith}
use Rattle.std.proofs.lemmas.List.{append-nil, map_more, drop_more, length-append}
use Rattle.hb_base.specs.declared.count.Count.{Count}
use Rattle.hb_calculus.specs.Declarations as calculus
use Rattle.hb_calculus.specs.Declarations.{all_nodes, terms_of, fields_of, node_count}
use Rattle.hb_env.specs.declared.decl.Decl.{Decl}
use Rattle.hb_env.specs.Environment.{Passes}
use Rattle.hb_env.specs.Plain.{plain, plains}
use Rattle.hb_env.proofs.KeptLemmas.{nodes_push, passed_is}
use Rattle.hb_step.specs.Counting.{ComeToPass, passes_here, passes_later}

-- E with the first i declarations has n declarations, and at least k nodes
pub record Counted (E : List calculus.Decl) (ds : List Decl) (i n k : ℕ) : Type 0 where
  pub declared : n ≡ length (E ++ plains (take i ds))
  pub nodes : k ≤ node_count (E ++ plains (take i ds))
  pub passes : (c : Count) → ComeToPass (E ++ plains (take i ds)) (plains (drop i ds)) c → ComeToPass E (plains ds) c

pub begun : (E : List calculus.Decl) (ds : List Decl) (n k : ℕ) → n ≡ length E → k ≡ node_count E → Counted E ds 0 n k
begun E ds n k a b = record {
  declared = rw (append-nil E) a;
  nodes = rw (append-nil E) (omega (arith, b));
  passes = λ c p. rw (append-nil E) at p;
}

more :
    (E : List calculus.Decl) (ds : List Decl) (i : ℕ) (x : Decl) → i < length ds → x ≡ slice_index_or ds i x
    → E ++ plains (take (i + 1) ds) ≡ (E ++ plains (take i ds)) ++ plain x ∷ []
more E ds i x l e =
    ap (λ xs. E ++ xs) (map_more plain ds i x l)
    ∙ ap (λ y. E ++ (plains (take i ds) ++ plain y ∷ [])) (sym e)
    ∙ sym (append_assoc E (plains (take i ds)) (plain x ∷ []))

pub next :
    (E : List calculus.Decl) (ds : List Decl) (i n k k' : ℕ) (x : Decl) → i < length ds → x ≡ slice_index_or ds i x
    → k' ≤ k + all_nodes (terms_of (plain x)) → Counted E ds i n k → Counted E ds (i + 1) (n + 1) k'
next E ds i n k k' x l e m p =
    let F = E ++ plains (take i ds) in
    let q : E ++ plains (take (i + 1) ds) ≡ F ++ plain x ∷ [] = more E ds i x l e in
    record {
      declared = rw q (omega (arith, p.declared, length-append F (plain x ∷ [])));
      nodes = rw q (omega (arith, m, p.nodes, nodes_push F (plain x)));
      passes = λ c s. p.passes c (rw (drop_more ds i x l, sym e) (passes_later (rw q at s)));
    }

-- the next declaration would pass the count
pub passed :
    (E : List calculus.Decl) (ds : List Decl) (i n f k k' : ℕ) (x : Decl) (c : Count) → i < length ds
    → x ≡ slice_index_or ds i x → f ≡ fields_of (plain x) → k' ≤ k + all_nodes (terms_of (plain x))
    → Counted E ds i n k → Passes n f k' c → ComeToPass E (plains ds) c
passed E ds i n f k k' x c l e g m p s =
    let F = E ++ plains (take i ds) in
    let h : 40000000 < k' → 40000000 < node_count (F ++ plain x ∷ []) = λ b. omega (arith, b, m, p.nodes, nodes_push F (plain x)) in
    p.passes c (rw (drop_more ds i x l, sym e) (passes_here (passed_is F (plain x) n f k' c p.declared g h s)))
