-- Carriers with arguments.
use Rattle.std.proofs.Common.{◌≡◌, ℕ, ◌+◌, ◌<◌, List, [], ◌∷◌, ◌++◌, length, map, take, get_or, slice_index_or, refl}
use Rattle.std.proofs.lemmas.List.{take_more}
use Rattle.hb_raw.specs.declared.word.Word.{Word}
use Rattle.hb_raw.specs.Preterm.{preterm, applied, preterms_of}
use Rattle.hb_grammar.specs.Part.{joined}
use Rattle.hb_grammar.specs.Grammar.{last_word, word_term, carrier_term}

pub last_word_more : (k : Word) (ws : List Word) (w : Word) → last_word k (ws ++ (w ∷ [])) ≡ w
last_word_more k [] w = refl
last_word_more k (v ∷ ws) w = last_word_more v ws w

pub carrier_term_some : (k : Word) (ws : List Word) → (ws ≡ [] → ⊥)
    → carrier_term k ws ≡ preterm (joined k.span (last_word k ws).span) (applied (word_term k) (preterms_of (map word_term ws)))
carrier_term_some k [] n = absurd (n refl)
carrier_term_some k (w ∷ ws) n = refl

pub last_word_take : (k : Word) (ws : List Word) (i : ℕ) (d : Word) → i < length ws
    → slice_index_or ws i d ≡ last_word k (take (i + 1) ws)
last_word_take k ws i d h = rw (take_more ws i d h, last_word_more k (take i ws) (get_or ws i d)) refl
