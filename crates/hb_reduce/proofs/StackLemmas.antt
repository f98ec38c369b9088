-- Layers and the frames that they stand for.
use Rattle.std.proofs.Common.{◌≡◌, ◌∙◌, sym, refl, ap, ℕ, suc, ◌+◌, ◌-◌, ◌^◌, min, max, List, [], ◌∷◌, ◌++◌, length, arith}
use Rattle.std.specs.Prelude.{Some, slice_get}
use Rattle.std.proofs.lemmas.Option.{none-some}
use Rattle.hb_calculus.proofs.Options.{Some-injective}
use Rattle.hb_reduce.specs.Frames.{Frame, own_nodes, own_depth}
use Rattle.hb_reduce.specs.declared.frames.Layer.{Layer}
use Rattle.hb_reduce.specs.Stack.{frame, stack, AreCounts, AreCounted}

pub stack-push : (fs : List Frame) (xs : List Layer) (x : Layer) → stack fs (xs ++ x ∷ []) ≡ frame x.side ∷ stack fs xs
stack-push fs [] x = refl
stack-push fs (y ∷ xs) x = stack-push (frame y.side ∷ fs) xs x

pub stack-length : (fs : List Frame) (xs : List Layer) → length (stack fs xs) ≡ length fs + length xs
stack-length fs [] = omega arith
stack-length fs (x ∷ xs) = omega (arith, stack-length (frame x.side ∷ fs) xs)

-- the counts of all frames
pub all-counts : (fs : List Frame) (xs : List Layer) (n d : ℕ) → AreCounted fs xs n d → AreCounts (stack fs xs) n d
all-counts fs [] n d h = h
all-counts fs (x ∷ xs) n d h = all-counts (frame x.side ∷ fs) xs n d h.1

pub counted-push :
    (fs : List Frame) (xs : List Layer) (x : Layer) (m e : ℕ) → AreCounted fs xs x.around x.reach
    → AreCounts (frame x.side ∷ stack fs xs) m e → AreCounted fs (xs ++ x ∷ []) m e
counted-push fs [] x m e h g = (h, g)
counted-push fs (y ∷ xs) x m e h g = (h.0, counted-push (frame y.side ∷ fs) xs x m e h.1 g)

pub counted-pop : (fs : List Frame) (xs : List Layer) (x : Layer) (n d : ℕ) → AreCounted fs (xs ++ x ∷ []) n d → AreCounted fs xs x.around x.reach
counted-pop fs [] x n d h = h.0
counted-pop fs (y ∷ xs) x n d h = (h.0, counted-pop (frame y.side ∷ fs) xs x n d h.1)

-- one frame more
pub grown-counts :
    (fs : List Frame) (f : Frame) (n d l a b m e : ℕ) → AreCounts fs n d → l ≡ min (length fs) (2 ^ 32 - 1)
    → a ≡ min (own_nodes f) (2 ^ 64 - 1) → b ≡ min (own_depth f) (2 ^ 32 - 1) → m ≡ min (n + a) (2 ^ 64 - 1)
    → e ≡ max d (min (min (l + b) (2 ^ 32 - 1) + 1) (2 ^ 32 - 1)) → AreCounts (f ∷ fs) m e
grown-counts fs f n d l a b m e h p q r s t =
    let x = h.nodes_are in
    let y = h.reach_is in
    record { nodes_are = omega arith; reach_is = omega arith }

-- the layers after a push, and before a pop
pub pushed-view :
    (xs ys : List Layer) (x : Layer) (now : List Frame) → ys ≡ xs ++ x ∷ [] → stack [] xs ≡ now → stack [] ys ≡ frame x.side ∷ now
pushed-view xs ys x now e h = ap (stack []) e ∙ stack-push [] xs x ∙ ap (λ fs. frame x.side ∷ fs) h

pub pushed-counts :
    (xs ys : List Layer) (x : Layer) (m e : ℕ) → ys ≡ xs ++ x ∷ [] → AreCounted [] xs x.around x.reach
    → AreCounts (frame x.side ∷ stack [] xs) m e → AreCounted [] ys m e
pushed-counts xs ys x m e q h g = rw q (counted-push [] xs x m e h g)

pub popped-counts : (xs ys : List Layer) (x : Layer) (n d : ℕ) → ys ≡ xs ++ x ∷ [] → AreCounted [] ys n d → AreCounted [] xs x.around x.reach
popped-counts xs ys x n d q h = counted-pop [] xs x n d (rw q at h)

-- the innermost frame is the last layer's
pub last-layer : (fs : List Frame) (xs : List Layer) (x : Layer) → slice_get xs (length xs - 1) ≡ Some x → (gs : List Frame) × (stack fs xs ≡ frame x.side ∷ gs)
last-layer fs [] x e = absurd (none-some x e)
last-layer fs (y ∷ []) x e = (fs, ap (λ z. frame z.side ∷ fs) (Some-injective y x e))
last-layer fs (y ∷ (z ∷ zs)) x e =
    let k : suc (length (z ∷ zs)) - 1 ≡ suc (length (z ∷ zs) - 1) = omega arith in
    last-layer (frame y.side ∷ fs) (z ∷ zs) x (sym (ap (λ n. slice_get (y ∷ z ∷ zs) n) k) ∙ e)
