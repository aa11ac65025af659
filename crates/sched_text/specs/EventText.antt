-- The lines of events.
use Rattle.std.specs.Prelude.{ℕ, ◌≤◌, List, [], ◌∷◌, ◌++◌, codes, decimal}
use Rattle.std.specs.List.{All, flat_map}
use Rattle.da_lang.specs.declared.event.Event.{Event}
use Rattle.da_lang.specs.declared.event.Event.TheVariants.{Move, Take, Timeout, Deliver, Lose, Repeat, Show, Stat}

-- the word that a line of this event begins with, and the numbers that follow it
abbrev pub event_word : Event → List ℕ
event_word (Move p) = codes "move"
event_word (Take p k) = codes "move"
event_word (Timeout p) = codes "timeout"
event_word (Deliver p q i) = codes "deliver"
event_word (Lose p q i) = codes "lose"
event_word (Repeat p q i) = codes "repeat"
event_word (Show p) = codes "show"
event_word (Stat p) = codes "stat"

abbrev pub event_numbers : Event → List ℕ
event_numbers (Move p) = p ∷ []
event_numbers (Take p k) = p ∷ k ∷ []
event_numbers (Timeout p) = p ∷ []
event_numbers (Deliver p q i) = p ∷ q ∷ i ∷ []
event_numbers (Lose p q i) = p ∷ q ∷ i ∷ []
event_numbers (Repeat p q i) = p ∷ q ∷ i ∷ []
event_numbers (Show p) = p ∷ []
event_numbers (Stat p) = p ∷ []

-- numbers, with a space before each
abbrev pub spaced : List ℕ → List ℕ
spaced = flat_map (λ n. codes " " ++ decimal n)

-- the text of an event, and its line
abbrev pub event_text : Event → List ℕ
event_text e = event_word e ++ spaced (event_numbers e)

abbrev pub event_line : Event → List ℕ
event_line e = event_text e ++ codes "\n"

-- a number that a schedule can name: it has one to nine digits and is not 0
abbrev pub IsNamed : ℕ → Type 0
IsNamed n = (1 ≤ n) × (n ≤ 999999999)

abbrev pub HasNames : Event → Type 0
HasNames e = All IsNamed (event_numbers e)
