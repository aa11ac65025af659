-- What a hunt looks for, by the first letter of its word.
use Rattle.std.proofs.Common.{◌≡◌, sym, ◌∙◌, ap, subst, ℕ, ◌-◌, ◌<◌, ◌≤◌, List, [], ◌∷◌, codes, decimal, drop, get_or, length, map, take, arith, Global, String}
use Rattle.std.specs.Prelude.{None, if◌then◌else◌, ◌==◌}
use Rattle.std.specs.String.{string_bytes}
use Rattle.std.proofs.lemmas.List.{take_rest}
use Rattle.da_values.specs.declared.val.Val.{Val}
use Rattle.da_values.specs.Reading.{IsTextOf}
use Rattle.da_commands.specs.Words.{IsBetween}
use Rattle.schedule_hunt.specs.declared.what.What.TheVariants.{Fault, Stuck, Overlap, Differ, More}
use Rattle.scout_commands.specs.declared.options.Options.{Options}
use Rattle.scout_commands.specs.declared.words.Aim.{Aim}
use Rattle.scout_commands.specs.declared.words.Aim.TheVariants.{Shown, Watched}
use Rattle.scout_commands.specs.declared.words.Question.{Question}
use Rattle.scout_commands.specs.declared.words.Question.TheVariants.{Next, Show}
use Rattle.scout_commands.specs.declared.words.Search.{Search}
use Rattle.scout_commands.specs.declared.words.Search.TheVariants.{Walk, Hunt}
use Rattle.scout_commands.specs.declared.words.Sort.{Sort}
use Rattle.scout_commands.specs.declared.words.Sort.TheVariants as sort_is
use Rattle.scout_commands.specs.Options.{AreOptions}
use Rattle.scout_commands.specs.Words.{AimsAt, FindsSought, IsFollow, IsOther, IsSearch, NoAim, Seeks, name_of_sort}
use Rattle.scout_commands.proofs.OptionLemmas.{no_words, same_first, same_others, words_from}

abbrev letter : List ℕ → ℕ
letter word = get_or word 0 0

letters : (a b : List ℕ) (xs ys : List (List ℕ)) → a ∷ xs ≡ b ∷ ys → letter a ≡ letter b
letters a b xs ys same = ap letter (same_first _ _ _ _ same)

-- WORDS THAT BEGIN WITH NOTHING that is looked for

-- no word that begins something
pub no_sort : (word : List ℕ) (words : List (List ℕ)) → ((sort : Sort) → word ≡ name_of_sort sort → ⊥) → NoAim (word ∷ words)
no_sort word words never (Shown Fault) others is = never sort_is.Fault (same_first _ _ _ _ is)
no_sort word words never (Shown Stuck) others is = never sort_is.Stuck (same_first _ _ _ _ is)
no_sort word words never (Shown (Overlap enter leave)) others (a, b, is, first, second) = never sort_is.Overlap (same_first _ _ _ _ is)
no_sort word words never (Shown Differ) others is = never sort_is.Differ (same_first _ _ _ _ is)
no_sort word words never (Shown (More most)) others is = never sort_is.More (same_first _ _ _ _ is.0)
no_sort word words never (Watched name) others is = never sort_is.Watch (same_first _ _ _ _ is)

-- no word at all
pub no_first : (words : List (String Global)) → length words < 1 → NoAim (map string_bytes words)
no_first words few (Shown Fault) others is = no_words words (codes "fault") others few is
no_first words few (Shown Stuck) others is = no_words words (codes "stuck") others few is
no_first words few (Shown (Overlap enter leave)) others (a, b, is, first, second) = no_words words (codes "overlap") (a ∷ b ∷ others) few is
no_first words few (Shown Differ) others is = no_words words (codes "differ") others few is
no_first words few (Shown (More most)) others is = no_words words (codes "more") (decimal most ∷ others) few is.0
no_first words few (Watched name) others is = no_words words (codes "watch") (name.now ∷ others) few is

-- `watch` without a name
no_watch : (words : List (List ℕ)) → ((name : List ℕ) (others : List (List ℕ)) → words ≡ name ∷ others → ⊥) → NoAim (codes "watch" ∷ words)
no_watch words never (Shown Fault) others is = let clash : 119 ≡ 102 = letters _ _ _ _ is in absurd (omega (arith, clash))
no_watch words never (Shown Stuck) others is = let clash : 119 ≡ 115 = letters _ _ _ _ is in absurd (omega (arith, clash))
no_watch words never (Shown (Overlap enter leave)) others (a, b, is, first, second) = let clash : 119 ≡ 111 = letters _ _ _ _ is in absurd (omega (arith, clash))
no_watch words never (Shown Differ) others is = let clash : 119 ≡ 100 = letters _ _ _ _ is in absurd (omega (arith, clash))
no_watch words never (Shown (More most)) others is = let clash : 119 ≡ 109 = letters _ _ _ _ is.0 in absurd (omega (arith, clash))
no_watch words never (Watched name) others is = never name.now others (same_others _ _ _ _ is)

-- `more` without a number
no_more : (words : List (List ℕ)) → ((most : ℕ) (others : List (List ℕ)) → words ≡ decimal most ∷ others → most ≤ 1000000000 → ⊥) → NoAim (codes "more" ∷ words)
no_more words never (Shown Fault) others is = let clash : 109 ≡ 102 = letters _ _ _ _ is in absurd (omega (arith, clash))
no_more words never (Shown Stuck) others is = let clash : 109 ≡ 115 = letters _ _ _ _ is in absurd (omega (arith, clash))
no_more words never (Shown (Overlap enter leave)) others (a, b, is, first, second) = let clash : 109 ≡ 111 = letters _ _ _ _ is in absurd (omega (arith, clash))
no_more words never (Shown Differ) others is = let clash : 109 ≡ 100 = letters _ _ _ _ is in absurd (omega (arith, clash))
no_more words never (Shown (More most)) others is = never most others (same_others _ _ _ _ is.0) is.1
no_more words never (Watched name) others is = let clash : 109 ≡ 119 = letters _ _ _ _ is in absurd (omega (arith, clash))

-- `overlap` without two values
no_overlap : (words : List (List ℕ)) → ((a b : List ℕ) (x y : Val) (others : List (List ℕ)) → words ≡ a ∷ b ∷ others → IsTextOf a x → IsTextOf b y → ⊥) → NoAim (codes "overlap" ∷ words)
no_overlap words never (Shown Fault) others is = let clash : 111 ≡ 102 = letters _ _ _ _ is in absurd (omega (arith, clash))
no_overlap words never (Shown Stuck) others is = let clash : 111 ≡ 115 = letters _ _ _ _ is in absurd (omega (arith, clash))
no_overlap words never (Shown (Overlap enter leave)) others (a, b, is, first, second) = never a b _ _ others (same_others _ _ _ _ is) first second
no_overlap words never (Shown Differ) others is = let clash : 111 ≡ 100 = letters _ _ _ _ is in absurd (omega (arith, clash))
no_overlap words never (Shown (More most)) others is = let clash : 111 ≡ 109 = letters _ _ _ _ is.0 in absurd (omega (arith, clash))
no_overlap words never (Watched name) others is = let clash : 111 ≡ 119 = letters _ _ _ _ is in absurd (omega (arith, clash))

-- THE WORDS OF A CALL

pub watch_absent : (words : List (String Global)) → length words < 1 → NoAim (codes "watch" ∷ map string_bytes words)
watch_absent words few = no_watch (map string_bytes words) (λ name others is. no_words words name others few is)

pub more_absent : (words : List (String Global)) → length words < 1 → NoAim (codes "more" ∷ map string_bytes words)
more_absent words few = no_more (map string_bytes words) (λ most others is less. no_words words (decimal most) others few is)

pub more_missed : (words : List (String Global)) (word : String Global) (text : List ℕ) → 1 ≤ length words → word ≡ get_or words 0 word → text ≡ string_bytes word → ((n : ℕ) → IsBetween 0 1000000000 n → text ≡ decimal n → ⊥)
    → NoAim (codes "more" ∷ map string_bytes words)
more_missed words word text some here named never =
    no_more (map string_bytes words) (λ most others is few. never most (omega arith, few) (same_first _ _ _ _ (sym (words_from words word text some here named) ∙ is)))

few_words : (words : List (String Global)) (a b : List ℕ) (others : List (List ℕ)) → length words < 2 → map string_bytes words ≡ a ∷ b ∷ others → ⊥
few_words [] a b others few is = (let clash : ◌≡◌ {A = List (List ℕ)} [] (a ∷ b ∷ others) = is in cc)
few_words (word ∷ []) a b others few is = (let clash : ◌≡◌ {A = List (List ℕ)} [] (b ∷ others) = same_others (string_bytes word) a [] (b ∷ others) is in cc)
few_words (word ∷ next ∷ words) a b others few is = omega (arith, few)

pub overlap_absent : (words : List (String Global)) → length words < 2 → NoAim (codes "overlap" ∷ map string_bytes words)
overlap_absent words few = no_overlap (map string_bytes words) (λ a b x y others is first second. few_words words a b others few is)

-- the first two words are these
pub words_from_two : (words : List (String Global)) (first second : String Global) (a b : List ℕ) → 2 ≤ length words → first ≡ get_or words 0 first → second ≡ get_or words 1 second → a ≡ string_bytes first → b ≡ string_bytes second
    → map string_bytes words ≡ a ∷ b ∷ map string_bytes (take (length words - 2) (drop 2 words))
words_from_two [] first second a b some here there named also = absurd (omega (arith, some))
words_from_two (x ∷ []) first second a b some here there named also = absurd (omega (arith, some))
words_from_two (x ∷ y ∷ ys) first second a b some here there named also =
    ap (λ t. t ∷ string_bytes y ∷ map string_bytes ys) (ap string_bytes (sym here) ∙ sym named)
    ∙ ap (λ t. a ∷ t ∷ map string_bytes ys) (ap string_bytes (sym there) ∙ sym also)
    ∙ ap (λ ws. a ∷ b ∷ map string_bytes ws) (sym (take_rest (x ∷ y ∷ ys) 2))

pub enter_missed : (enter leave : List ℕ) (words : List (List ℕ)) → ((x : Val) → IsTextOf enter x → ⊥) → NoAim (codes "overlap" ∷ enter ∷ leave ∷ words)
enter_missed enter leave words never =
    no_overlap (enter ∷ leave ∷ words) (λ a b x y others is first second. never x (subst (λ t. IsTextOf t x) (sym (same_first enter a (leave ∷ words) (b ∷ others) is)) first))

pub leave_missed : (enter leave : List ℕ) (words : List (List ℕ)) → ((y : Val) → IsTextOf leave y → ⊥) → NoAim (codes "overlap" ∷ enter ∷ leave ∷ words)
leave_missed enter leave words never =
    no_overlap (enter ∷ leave ∷ words)
    (λ a b x y others is first second. never y (subst (λ t. IsTextOf t y) (sym (same_first leave b words others (same_others enter a (leave ∷ words) (b ∷ others) is))) second))

-- WHAT STANDS BEHIND what is looked for, by the letter: one word, two or three before it

abbrev words_at : ℕ → ℕ
words_at n = if n == 119 then 1 else if n == 109 then 1 else if n == 111 then 2 else 0

abbrev behind : List (List ℕ) → List (List ℕ)
behind [] = []
behind (word ∷ words) = drop (words_at (letter word)) words

behind_aim : (words : List (List ℕ)) (aim : Aim) (others : List (List ℕ)) → AimsAt words aim others → behind words ≡ others
behind_aim words (Shown Fault) others is = ap behind is
behind_aim words (Shown Stuck) others is = ap behind is
behind_aim words (Shown (Overlap enter leave)) others (a, b, is, first, second) = ap behind is
behind_aim words (Shown Differ) others is = ap behind is
behind_aim words (Shown (More most)) others is = ap behind is.0
behind_aim words (Watched name) others is = ap behind is

-- what stands behind it is no options, so there are none behind anything that the words begin with
pub no_sought : (words : List (List ℕ)) (aim : Aim) (others : List (List ℕ)) → AimsAt words aim others → ((options : Options) → AreOptions others options → ⊥) → FindsSought words None
no_sought words aim others is never other options (left, also, are) =
    never options (subst (λ ws. AreOptions ws options) (sym (behind_aim words other left also) ∙ behind_aim words aim others is) are)

pub none_sought : (words : List (List ℕ)) → NoAim words → FindsSought words None
none_sought words never aim options (others, aims, are) = never aim others aims

-- FIVE WORDS AND MORE, behind which nothing is sought

module _ (command program start count most : List ℕ) (words : List (List ℕ)) where
  abbrev whole : List (List ℕ)
  whole = command ∷ program ∷ start ∷ count ∷ most ∷ words

  no_search : FindsSought words None → (search : Search) (name : List ℕ) → IsSearch whole search name → ⊥
  no_search never (Walk first last) name (is, made) = (let clash : ◌≡◌ {A = List (List ℕ)} [] (most ∷ words) = sym (ap (drop 4) is) in cc)
  no_search never (Hunt trials aim options) name (asked, is, made, some, seeks, setting) = never aim options (subst (λ ws. Seeks ws aim options) (sym (ap (drop 5) is)) seeks)

  no_follow : (question : Question) (name schedule : List ℕ) → IsFollow whole question name schedule → ⊥
  no_follow Next name schedule is = (let clash : ◌≡◌ {A = List (List ℕ)} [] (count ∷ most ∷ words) = sym (ap (drop 3) is) in cc)
  no_follow Show name schedule is = (let clash : ◌≡◌ {A = List (List ℕ)} [] (count ∷ most ∷ words) = sym (ap (drop 3) is) in cc)

  pub unsought : FindsSought words None → IsOther whole
  unsought never = record {
    search = no_search never;
    follow = no_follow;
    watch = λ watch name schedule is. (let clash : ◌≡◌ {A = List (List ℕ)} [] (most ∷ words) = sym (ap (drop 4) is) in cc);
    draw = λ trace is. (let clash : ◌≡◌ {A = List (List ℕ)} [] (start ∷ count ∷ most ∷ words) = sym (ap (drop 2) is) in cc);
  }
