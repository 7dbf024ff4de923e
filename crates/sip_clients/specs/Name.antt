-- Names that the agent makes: its tags, and its branches after the cookie (RFC 3261, sections
-- 8.1.1.7 and 19.3).
use Rattle.std.specs.Prelude.{◌≡◌, ◌<◌, ◌^◌, ℕ, ◌+◌, ◌*◌, ◌/◌, ◌%◌, zero, suc, List, [], ◌∷◌, ◌++◌}
use Rattle.rand_chacha.specs.ChaCha.{word_at, key_of}
use Rattle.sip_text.specs.Number.{hex_digit}
use Rattle.sip_message.specs.declared.id.Id.{Id}

-- the last so many hexadecimal digits of a number
unfoldable pub hex : ℕ → ℕ → List ℕ
hex zero number = []
hex (suc count) number = hex count (number / 16) ++ hex_digit (number % 16) ∷ []

-- the last part of a name, 32 bits to guess for who hasn't seen it: a word of ChaCha20 (10 double
-- rounds), whose key is the seed and whose stream the round; each place has 16 words
abbrev pub word_of_name : List ℕ → Id → ℕ → ℕ
word_of_name seed id index = word_at 10 (key_of seed) id.round (16 * id.place + index)

-- the round, the place, the index and the word; the first three already make names differ
abbrev pub name_of : List ℕ → Id → ℕ → List ℕ
name_of seed id index =
    ((hex 16 id.round ++ hex 16 id.place) ++ hex 1 index) ++ hex 8 (word_of_name seed id index)

-- the From tag of the request outside of dialogs that the command with this id sends
abbrev pub opening_tag : List ℕ → Id → List ℕ
opening_tag seed id = name_of seed id 1

-- ---- for steps and laws: `run` needs nothing of what follows

-- names of different rounds, places or indexes differ, whatever the seeds
abbrev pub NamesDiffer : Type 0
NamesDiffer = (seed other_seed : List ℕ) (id other : Id) (index other_index : ℕ)
    → id.round < 2 ^ 64 → other.round < 2 ^ 64 → id.place < 2 ^ 64 → other.place < 2 ^ 64
    → index < 16 → other_index < 16
    → name_of seed id index ≡ name_of other_seed other other_index
    → (id ≡ other) × (index ≡ other_index)
