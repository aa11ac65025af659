-- A line is one event at most, and then it is not passed over.
use Rattle.std.proofs.Common.{◌≡◌, refl, sym, ◌∙◌, ap, subst, ℕ, true, false, List, ◌++◌, arith}
use Rattle.std.proofs.lemmas.List.Sums.{AllPass-from_list_all}
use Rattle.std.specs.List.{All, list_all}
use Rattle.std.specs.Prelude.{◌==◌, not, Option, Some, None, IfNone, codes, slice_index_or}
use Rattle.da_lang.specs.declared.event.Event.{Event}
use Rattle.da_lang.specs.declared.event.Event.TheVariants.{Move, Take, Timeout, Deliver, Lose, Repeat, Show, Stat}
use Rattle.sched_text.specs.EventText.{HasNames, IsNamed, event_numbers, event_text, event_word, spaced}
use Rattle.sched_text.specs.Reading.{AreNumbers, Stops, event_named}
use Rattle.sched_text.specs.ScheduleText.{IsLineOf, IsSkipped}
use Rattle.sched_text.proofs.WordLemmas.{IsWord, one_cut, one_list, stops_spaced}

named_again : (e : Event) → event_named (event_word e) (event_numbers e) ≡ Some e
named_again (Move p) = refl
named_again (Take p k) = refl
named_again (Timeout p) = refl
named_again (Deliver p q i) = refl
named_again (Lose p q i) = refl
named_again (Repeat p q i) = refl
named_again (Show p) = refl
named_again (Stat p) = refl

pub same_event : (d e : Event) → event_word d ≡ event_word e → event_numbers d ≡ event_numbers e → d ≡ e
same_event d e word numbers =
    let both : ◌≡◌ {A = Option Event} (Some d) (Some e) = sym (named_again d) ∙ ap (λ w. event_named w (event_numbers d)) word ∙ ap (event_named (event_word e)) numbers ∙ named_again e in
    cc

-- a test of each byte, for a word that is written out
plain : (word : List ℕ) → list_all (λ b. not (b == 32)) word ≡ true → IsWord word
plain word tested = λ k d inside same.
    let passed : not (slice_index_or word k d == 32) ≡ true = AllPass-from_list_all (λ b. not (b == 32)) word tested k d inside in
    let clash : false ≡ true = ap (λ b. not (b == 32)) (sym same) ∙ passed in
    cc

pub word_is_plain : (e : Event) → IsWord (event_word e)
word_is_plain (Move p) = plain (codes "move") refl
word_is_plain (Take p k) = plain (codes "move") refl
word_is_plain (Timeout p) = plain (codes "timeout") refl
word_is_plain (Deliver p q i) = plain (codes "deliver") refl
word_is_plain (Lose p q i) = plain (codes "lose") refl
word_is_plain (Repeat p q i) = plain (codes "repeat") refl
word_is_plain (Show p) = plain (codes "show") refl
word_is_plain (Stat p) = plain (codes "stat") refl

-- the word and the numbers of the line of an event
pub cut_event : (e : Event) (word rest line : List ℕ) → line ≡ word ++ rest → line ≡ event_text e → IsWord word → Stops rest → (word ≡ event_word e) × (rest ≡ spaced (event_numbers e))
cut_event e word rest line cut is plain stops =
    one_cut word (event_word e) rest (spaced (event_numbers e)) plain (word_is_plain e) stops (stops_spaced (event_numbers e)) (sym cut ∙ is)

pub one_event : (d e : Event) (line : List ℕ) → IsLineOf d line → IsLineOf e line → d ≡ e
one_event d e line one other =
    let (word, rest) = cut_event e (event_word d) (spaced (event_numbers d)) line one.is other.is (word_is_plain d) (stops_spaced (event_numbers d)) in
    same_event d e word (one_list (event_numbers d) (event_numbers e) one.names other.names rest)

pub not_skipped : (e : Event) (line : List ℕ) → IsLineOf e line → IsSkipped line → ⊥
not_skipped e line one skipped = begins e (subst IsSkipped one.is skipped)
  where
    begins : (e : Event) → IsSkipped (event_text e) → ⊥
    begins (Move p) same = omega (arith, same)
    begins (Take p k) same = omega (arith, same)
    begins (Timeout p) same = omega (arith, same)
    begins (Deliver p q i) same = omega (arith, same)
    begins (Lose p q i) same = omega (arith, same)
    begins (Repeat p q i) same = omega (arith, same)
    begins (Show p) same = omega (arith, same)
    begins (Stat p) same = omega (arith, same)

-- no event is the line whose numbers cannot be read, or whose word and numbers name none
pub numbers_of : (e : Event) → HasNames e → AreNumbers (event_numbers e)
numbers_of (Move p) names = record { named = names; some = omega arith; few = omega arith }
numbers_of (Take p k) names = record { named = names; some = omega arith; few = omega arith }
numbers_of (Timeout p) names = record { named = names; some = omega arith; few = omega arith }
numbers_of (Deliver p q i) names = record { named = names; some = omega arith; few = omega arith }
numbers_of (Lose p q i) names = record { named = names; some = omega arith; few = omega arith }
numbers_of (Repeat p q i) names = record { named = names; some = omega arith; few = omega arith }
numbers_of (Show p) names = record { named = names; some = omega arith; few = omega arith }
numbers_of (Stat p) names = record { named = names; some = omega arith; few = omega arith }

pub no_numbers : (word rest line : List ℕ) → line ≡ word ++ rest → IsWord word → Stops rest → ((ns : List ℕ) → AreNumbers ns → rest ≡ spaced ns → ⊥) → (e : Event) → IsLineOf e line → ⊥
no_numbers word rest line cut plain stops none e one =
    let (word_is, rest_is) = cut_event e word rest line cut one.is plain stops in
    none (event_numbers e) (numbers_of e one.names) rest_is

pub no_line_named : (word rest line ns : List ℕ) (found : Option Event) → line ≡ word ++ rest → IsWord word → Stops rest → rest ≡ spaced ns → All IsNamed ns → found ≡ event_named word ns
    → IfNone found ((e : Event) → IsLineOf e line → ⊥)
no_line_named word rest line ns (Some e) cut plain stops is named said = tt
no_line_named word rest line ns None cut plain stops is named said = λ e one.
    let (word_is, rest_is) = cut_event e word rest line cut one.is plain stops in
    let numbers = one_list ns (event_numbers e) named one.names (sym is ∙ rest_is) in
    let clash : ◌≡◌ {A = Option Event} None (Some e) = said ∙ ap (λ w. event_named w ns) word_is ∙ ap (event_named (event_word e)) numbers ∙ named_again e in
    cc
