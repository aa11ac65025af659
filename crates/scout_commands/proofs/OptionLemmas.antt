-- What the options of a hunt are.
use Rattle.std.proofs.Common.{◌≡◌, refl, sym, ◌∙◌, ap, subst, ℕ, suc, ◌-◌, ◌<◌, ◌≤◌, Bool, true, false, List, [], ◌∷◌, codes, decimal, drop, get_or, length, map, take, take_all, arith, Global, String}
use Rattle.std.specs.Prelude.{Option, Some, None, if◌then◌else◌, is_some, unwrap_or, ◌==◌}
use Rattle.std.specs.String.{string_bytes}
use Rattle.std.proofs.lemmas.Bool.{false≢true}
use Rattle.std.proofs.lemmas.Fmt.{decimal_injective}
use Rattle.da_commands.specs.Words.{IsBetween}
use Rattle.schedule_pick.specs.declared.budget.Budget.{Budget}
use Rattle.schedule_pick.specs.declared.strategy.Setting.{Setting}
use Rattle.schedule_pick.specs.declared.strategy.Strategy.{Strategy}
use Rattle.schedule_pick.specs.declared.strategy.Strategy.TheVariants.{Uniform, Priorities, Turns}
use Rattle.scout_commands.specs.declared.options.Kind.{Kind}
use Rattle.scout_commands.specs.declared.options.Kind.TheVariants.{Lose, Repeat, By, Jobs, Coverage, Quiet}
use Rattle.scout_commands.specs.declared.options.Options.{Options}
use Rattle.scout_commands.specs.declared.options.Taken.{Taken}
use Rattle.scout_commands.specs.declared.options.Way.{Way}
use Rattle.scout_commands.specs.declared.options.Way.TheVariants as way_is
use Rattle.scout_commands.specs.Options.{AreOptions, BeginsWithStrategy, Finds, FindsOption, IsOption, NoOption, OptionsFrom, none, one, Takes, TakesNumber, name_of, name_of_way, no_options, plain_of_way, setting_of, with_how, with_jobs, with_losses, with_repetitions}

-- WORDS, the first of them and the others

abbrev pub others_of : List (String Global) → List (String Global)
others_of rest = take (length rest - 1) (drop 1 rest)

first_of : (rest : List (String Global)) (a d : String Global) → 1 ≤ length rest → a ≡ get_or rest 0 d → rest ≡ a ∷ others_of rest
first_of [] a d some is = absurd (omega (arith, some))
first_of (x ∷ xs) a d some is = ap (λ y. y ∷ xs) (sym is) ∙ ap (λ ys. a ∷ ys) (sym (take_all (length (x ∷ xs) - 1) xs (omega arith)))

pub words_from : (words : List (String Global)) (word : String Global) (text : List ℕ) → 1 ≤ length words → word ≡ get_or words 0 word → text ≡ string_bytes word → map string_bytes words ≡ text ∷ map string_bytes (others_of words)
words_from words word text some here named = ap (map string_bytes) (first_of words word word some here) ∙ ap (λ t. t ∷ map string_bytes (others_of words)) (sym named)

pub no_words : (words : List (String Global)) (first : List ℕ) (others : List (List ℕ)) → length words < 1 → map string_bytes words ≡ first ∷ others → ⊥
no_words [] first others few is = (let clash : ◌≡◌ {A = List (List ℕ)} [] (first ∷ others) = is in cc)
no_words (word ∷ words) first others few is = omega (arith, few)

counted : (words : List (String Global)) → length (map string_bytes words) ≡ length words
counted [] = refl
counted (word ∷ words) = ap suc (counted words)

pub same_first : (a b : List ℕ) (xs ys : List (List ℕ)) → a ∷ xs ≡ b ∷ ys → a ≡ b
same_first a b xs ys same = cc

pub same_others : (a b : List ℕ) (xs ys : List (List ℕ)) → a ∷ xs ≡ b ∷ ys → xs ≡ ys
same_others a b xs ys same = cc

-- THE NAME OF AN OPTION tells its kind, by its third letter

abbrev third : List ℕ → ℕ
third word = get_or word 2 0

abbrev kind_at : ℕ → Kind
kind_at n = if n == 115 then Lose else if n == 112 then Repeat else if n == 0 then By else if n == 98 then Jobs else if n == 99 then Coverage else Quiet

kind_named : (k : Kind) → kind_at (third (name_of k)) ≡ k
kind_named Lose = refl
kind_named Repeat = refl
kind_named By = refl
kind_named Jobs = refl
kind_named Coverage = refl
kind_named Quiet = refl

same_kind : (k l : Kind) → name_of k ≡ name_of l → k ≡ l
same_kind k l same = sym (kind_named k) ∙ ap (λ word. kind_at (third word)) same ∙ kind_named l

-- what stands in the words is what its kind takes
of_its_kind : (k l : Kind) (o new : Options) (behind words others : List (List ℕ)) → name_of k ∷ words ≡ name_of l ∷ behind → Takes l o behind new others → Takes k o words new others
of_its_kind k l o new behind words others same takes =
    let kinds : k ≡ l = same_kind k l (same_first _ _ _ _ same) in
    subst (λ m. Takes m o words new others) (sym kinds) (subst (λ ws. Takes l o ws new others) (sym (same_others _ _ _ _ same)) takes)

pub of_kind : (k : Kind) (o : Options) (word : List ℕ) (words : List (List ℕ)) (result : Option Taken) → word ≡ name_of k → Finds k o words result → FindsOption o (word ∷ words) result
of_kind k o word words (Some taken) named finds = record { kind = k; behind = words; words_are = ap (λ w. w ∷ words) named; takes = finds }
of_kind k o word words None named never = λ new others is.
    never new others (of_its_kind k is.kind o new is.behind words others (sym (ap (λ w. w ∷ words) named) ∙ is.words_are) is.takes)

pub of_no_kind : (o : Options) (word : List ℕ) (words : List (List ℕ)) → ((kind : Kind) → word ≡ name_of kind → ⊥) → NoOption o (word ∷ words)
of_no_kind o word words never new others is = never is.kind (same_first _ _ _ _ is.words_are)

-- NOTHING ELSE IS TAKEN by the same words

abbrev letter : List ℕ → ℕ
letter word = get_or word 0 0

letters : (a b : List ℕ) (words xs ys : List (List ℕ)) → words ≡ a ∷ xs → words ≡ b ∷ ys → letter a ≡ letter b
letters a b words xs ys first second = ap letter (same_first _ _ _ _ (sym first ∙ second))

same_numbers : (a b : ℕ) (words xs ys : List (List ℕ)) → a ≤ 255 → b ≤ 255 → words ≡ decimal a ∷ xs → words ≡ decimal b ∷ ys → (a ≡ b) × (xs ≡ ys)
same_numbers a b words xs ys few less first second =
    let same : decimal a ∷ xs ≡ decimal b ∷ ys = sym first ∙ second in
    (decimal_injective a b (omega (arith, few)) (omega (arith, less)) (same_first _ _ _ _ same), same_others _ _ _ _ same)

same_strategies : (s t : Strategy) (words xs ys : List (List ℕ)) → BeginsWithStrategy words s xs → BeginsWithStrategy words t ys → (s ≡ t) × (xs ≡ ys)
same_strategies Uniform Uniform words xs ys a b = (refl, same_others _ _ _ _ (sym a ∙ b))
same_strategies Uniform (Priorities n) words xs ys a b = let clash : 117 ≡ 112 = letters _ _ _ _ _ a b.0 in absurd (omega (arith, clash))
same_strategies Uniform Turns words xs ys a b = let clash : 117 ≡ 116 = letters _ _ _ _ _ a b in absurd (omega (arith, clash))
same_strategies (Priorities m) Uniform words xs ys a b = let clash : 112 ≡ 117 = letters _ _ _ _ _ a.0 b in absurd (omega (arith, clash))
same_strategies (Priorities m) (Priorities n) words xs ys a b =
    let numbers : (m ≡ n) × (xs ≡ ys) = same_numbers m n _ xs ys a.1 b.1 refl (same_others _ _ _ _ (sym a.0 ∙ b.0)) in
    (ap Priorities numbers.0, numbers.1)
same_strategies (Priorities m) Turns words xs ys a b = let clash : 112 ≡ 116 = letters _ _ _ _ _ a.0 b in absurd (omega (arith, clash))
same_strategies Turns Uniform words xs ys a b = let clash : 116 ≡ 117 = letters _ _ _ _ _ a b in absurd (omega (arith, clash))
same_strategies Turns (Priorities n) words xs ys a b = let clash : 116 ≡ 112 = letters _ _ _ _ _ a b.0 in absurd (omega (arith, clash))
same_strategies Turns Turns words xs ys a b = (refl, same_others _ _ _ _ (sym a ∙ b))

takes_alike : (k : Kind) (o new new' : Options) (words xs ys : List (List ℕ)) → Takes k o words new xs → Takes k o words new' ys → (new ≡ new') × (xs ≡ ys)
takes_alike Lose o new new' words xs ys (m, first, few, fresh, is) (n, second, less, free, are) =
    let same : (m ≡ n) × (xs ≡ ys) = same_numbers m n words xs ys few.1 less.1 first second in
    (is ∙ ap (with_losses o) same.0 ∙ sym are, same.1)
takes_alike Repeat o new new' words xs ys (m, first, few, fresh, is) (n, second, less, free, are) =
    let same : (m ≡ n) × (xs ≡ ys) = same_numbers m n words xs ys few.1 less.1 first second in
    (is ∙ ap (with_repetitions o) same.0 ∙ sym are, same.1)
takes_alike By o new new' words xs ys (s, first, fresh, is) (t, second, free, are) =
    let same : (s ≡ t) × (xs ≡ ys) = same_strategies s t words xs ys first second in
    (is ∙ ap (with_how o) same.0 ∙ sym are, same.1)
takes_alike Jobs o new new' words xs ys (m, first, few, fresh, is) (n, second, less, free, are) =
    let same : (m ≡ n) × (xs ≡ ys) = same_numbers m n words xs ys (omega (arith, few.1)) (omega (arith, less.1)) first second in
    (is ∙ ap (with_jobs o) same.0 ∙ sym are, same.1)
takes_alike Coverage o new new' words xs ys (first, fresh, is) (second, free, are) = (is ∙ sym are, sym first ∙ second)
takes_alike Quiet o new new' words xs ys (first, fresh, is) (second, free, are) = (is ∙ sym are, sym first ∙ second)

same_option : (o new new' : Options) (words xs ys : List (List ℕ)) → IsOption o words new xs → IsOption o words new' ys → (new ≡ new') × (xs ≡ ys)
same_option o new new' words xs ys a b =
    takes_alike a.kind o new new' a.behind xs ys a.takes (of_its_kind a.kind b.kind o new' b.behind a.behind ys (sym a.words_are ∙ b.words_are) b.takes)

-- WHAT A FUNCTION FINDS

pub as_kind : (k form : Kind) (o : Options) (words : List (List ℕ)) (found : Option Taken) → k ≡ form → Finds form o words found → Finds k o words found
as_kind k form o words found is finds = subst (λ x. Finds x o words found) (sym is) finds

-- a number that is the first word, another word there, and no word
module _ (least most : ℕ) (words : List (String Global)) (taken : Option ℕ) (with_it : ℕ → Options) where
  pub number_taken : (word : String Global) (text : List ℕ) (n : ℕ) → 1 ≤ length words → word ≡ get_or words 0 word → text ≡ string_bytes word → IsBetween least most n → text ≡ decimal n → taken ≡ None
      → TakesNumber least most (map string_bytes words) taken with_it (with_it n) (map string_bytes (others_of words))
  number_taken word text n some here named between is free = (n, words_from words word text some here named ∙ ap (λ t. t ∷ map string_bytes (others_of words)) is, between, free, refl)

  pub number_missed : (word : String Global) (text : List ℕ) → 1 ≤ length words → word ≡ get_or words 0 word → text ≡ string_bytes word → ((n : ℕ) → IsBetween least most n → text ≡ decimal n → taken ≡ None → ⊥)
      → (new : Options) (others : List (List ℕ)) → TakesNumber least most (map string_bytes words) taken with_it new others → ⊥
  number_missed word text some here named never new others (n, is, between, free, made) = never n between (same_first _ _ _ _ (sym (words_from words word text some here named) ∙ is)) free

  pub number_absent : length words < 1 → (new : Options) (others : List (List ℕ)) → TakesNumber least most (map string_bytes words) taken with_it new others → ⊥
  number_absent few new others (n, is, between, free, made) = no_words words (decimal n) others few is

-- a strategy
pub none_from : (s : Option Strategy) (b : Bool) → b ≡ is_some s → b ≡ false → s ≡ None
none_from None b told never = refl
none_from (Some x) b told never = absurd (false≢true (sym never ∙ told))

pub taken_before : (o : Options) (words : List (List ℕ)) (b : Bool) → b ≡ is_some o.strategy → b ≡ true → Finds By o words None
taken_before o words b told is new others (s, first, free, made) = false≢true (sym (ap is_some free) ∙ sym told ∙ is)

strategy_taken : (o : Options) (words : List (List ℕ)) (s : Strategy) (taken : Taken) (others : List (String Global)) → o.strategy ≡ None → BeginsWithStrategy words s (map string_bytes others) → taken.options ≡ with_how o s → taken.others.now ≡ others
    → Finds By o words (Some taken)
strategy_taken o words s taken others free begins is same = (s, subst (λ xs. BeginsWithStrategy words s (map string_bytes xs)) (sym same) begins, free, is)

-- one that asks for no number
pub plain_taken : (o : Options) (way : Way) (s : Strategy) (taken : Taken) (others : List (String Global)) → ◌≡◌ {A = Option Strategy} (Some s) (plain_of_way way) → o.strategy ≡ None → taken.options ≡ with_how o s → taken.others.now ≡ others
    → Finds By o (name_of_way way ∷ map string_bytes others) (Some taken)
plain_taken o way_is.Uniform s taken others plain free is same =
    let both : ◌≡◌ {A = Option Strategy} (Some s) (Some Uniform) = plain in
    let kind : s ≡ Uniform = cc in
    strategy_taken o (codes "uniform" ∷ map string_bytes others) Uniform taken others free refl (is ∙ ap (with_how o) kind) same
plain_taken o way_is.Priorities s taken others plain free is same = let clash : ◌≡◌ {A = Option Strategy} (Some s) None = plain in absurd (cc)
plain_taken o way_is.Turns s taken others plain free is same =
    let both : ◌≡◌ {A = Option Strategy} (Some s) (Some Turns) = plain in
    let kind : s ≡ Turns = cc in
    strategy_taken o (codes "turns" ∷ map string_bytes others) Turns taken others free refl (is ∙ ap (with_how o) kind) same

pub other_way : (way : Way) → ◌≡◌ {A = Option Strategy} None (plain_of_way way) → way ≡ way_is.Priorities
other_way way_is.Uniform plain = let clash : ◌≡◌ {A = Option Strategy} None (Some Uniform) = plain in absurd (cc)
other_way way_is.Priorities plain = refl
other_way way_is.Turns plain = let clash : ◌≡◌ {A = Option Strategy} None (Some Turns) = plain in absurd (cc)

-- priorities, with a number, without one and without a word
pub priorities_taken : (o : Options) (words : List (String Global)) (word : String Global) (text : List ℕ) (n : ℕ) (taken : Taken) → 1 ≤ length words → word ≡ get_or words 0 word → text ≡ string_bytes word → n ≤ 255 → text ≡ decimal n
    → o.strategy ≡ None → taken.options ≡ with_how o (Priorities n) → taken.others.now ≡ others_of words → Finds By o (codes "priorities" ∷ map string_bytes words) (Some taken)
priorities_taken o words word text n taken some here named few number free is same =
    strategy_taken o (codes "priorities" ∷ map string_bytes words) (Priorities n) taken (others_of words) free
    (ap (λ ws. codes "priorities" ∷ ws) (words_from words word text some here named ∙ ap (λ t. t ∷ map string_bytes (others_of words)) number), few) is same

no_priorities : (o : Options) (words : List (List ℕ)) → ((n : ℕ) (others : List (List ℕ)) → words ≡ decimal n ∷ others → n ≤ 255 → ⊥) → Finds By o (codes "priorities" ∷ words) None
no_priorities o words never new others (Uniform, first, fresh, is) = let clash : 112 ≡ 117 = ap letter (same_first _ _ _ _ first) in absurd (omega (arith, clash))
no_priorities o words never new others (Priorities n, first, fresh, is) = never n others (same_others _ _ _ _ first.0) first.1
no_priorities o words never new others (Turns, first, fresh, is) = let clash : 112 ≡ 116 = ap letter (same_first _ _ _ _ first) in absurd (omega (arith, clash))

pub priorities_missed : (o : Options) (words : List (String Global)) (word : String Global) (text : List ℕ) → 1 ≤ length words → word ≡ get_or words 0 word → text ≡ string_bytes word
    → ((n : ℕ) → IsBetween 0 255 n → text ≡ decimal n → ◌≡◌ {A = Option ℕ} None None → ⊥) → Finds By o (codes "priorities" ∷ map string_bytes words) None
priorities_missed o words word text some here named never =
    no_priorities o (map string_bytes words) (λ n others is few. never n (omega arith, few) (same_first _ _ _ _ (sym (words_from words word text some here named) ∙ is)) refl)

pub priorities_absent : (o : Options) (words : List (String Global)) → length words < 1 → Finds By o (codes "priorities" ∷ map string_bytes words) None
priorities_absent o words few = no_priorities o (map string_bytes words) (λ n others is less. no_words words (decimal n) others few is)

-- the word of a strategy, another word, and no word
pub way_named : (o : Options) (way : Way) (word : List ℕ) (words : List (List ℕ)) (found : Option Taken) → word ≡ name_of_way way → Finds By o (name_of_way way ∷ words) found → Finds By o (word ∷ words) found
way_named o way word words found named finds = subst (λ w. Finds By o (w ∷ words) found) (sym named) finds

pub no_way : (o : Options) (word : List ℕ) (words : List (List ℕ)) → ((way : Way) → word ≡ name_of_way way → ⊥) → Finds By o (word ∷ words) None
no_way o word words never new others (Uniform, first, fresh, is) = never way_is.Uniform (same_first _ _ _ _ first)
no_way o word words never new others (Priorities n, first, fresh, is) = never way_is.Priorities (same_first _ _ _ _ first.0)
no_way o word words never new others (Turns, first, fresh, is) = never way_is.Turns (same_first _ _ _ _ first)

pub strategy_absent : (o : Options) (words : List (String Global)) → length words < 1 → Finds By o (map string_bytes words) None
strategy_absent o words few new others (Uniform, first, fresh, is) = no_words words (codes "uniform") others few first
strategy_absent o words few new others (Priorities n, first, fresh, is) = no_words words (codes "priorities") (decimal n ∷ others) few first.0
strategy_absent o words few new others (Turns, first, fresh, is) = no_words words (codes "turns") others few first

-- HOW SCHEDULES ARE GENERATED
pub setting_is : (o : Options) (l r : ℕ) (s : Strategy) (setting : Setting) → l ≡ unwrap_or o.losses 0 → r ≡ unwrap_or o.repetitions 0 → s ≡ unwrap_or o.strategy Turns
    → setting ≡ record { budget = record { losses = l; repetitions = r }; strategy = s } → setting ≡ setting_of o
setting_is o l r s setting lost repeated picked is =
    is
    ∙ ap (λ (n : ℕ). let b : Budget = record { losses = n; repetitions = r } in let all : Setting = record { budget = b; strategy = s } in all) lost
    ∙ ap (λ (n : ℕ). let b : Budget = record { losses = unwrap_or o.losses 0; repetitions = n } in let all : Setting = record { budget = b; strategy = s } in all) repeated
    ∙ ap (λ (x : Strategy). let b : Budget = record { losses = unwrap_or o.losses 0; repetitions = unwrap_or o.repetitions 0 } in let all : Setting = record { budget = b; strategy = x } in all) picked

-- THE WORDS THAT ARE LEFT decide

-- what is left comes to the same as all the words
abbrev pub Left : List (List ℕ) → Options → List (List ℕ) → Type 0
Left words o rest = (last : Options) → (OptionsFrom last o rest → AreOptions words last) × (AreOptions words last → OptionsFrom last o rest)

goes_on : (last o new : Options) (words others : List (List ℕ)) → IsOption o words new others → OptionsFrom last o words → OptionsFrom last new others
goes_on last o new words others is (none _ _ empty same) =
    let clash : [] ≡ name_of is.kind ∷ is.behind = sym empty ∙ is.words_are in
    absurd (cc)
goes_on last o new words others is (one _ after _ behind other from) =
    let both : (new ≡ after) × (others ≡ behind) = same_option o new after words others behind is other in
    subst (λ p. OptionsFrom last p others) (sym both.0) (subst (λ ws. OptionsFrom last after ws) (sym both.1) from)

stops : (last o : Options) (word : List ℕ) (words : List (List ℕ)) → NoOption o (word ∷ words) → OptionsFrom last o (word ∷ words) → ⊥
stops last o word words never (none _ _ empty same) = absurd (cc)
stops last o word words never (one _ after _ behind other from) = never after behind other

pub left_at_first : (words : List (List ℕ)) → Left words no_options words
left_at_first words last = (λ all. all, λ all. all)

-- one more option is taken, and what is behind it is left
pub left_on : (words : List (List ℕ)) (o new : Options) (rest front others : List (List ℕ)) → rest ≡ front → Left words o rest → IsOption o front new others → Left words new others
left_on words o new rest front others cut left is last = (
  λ from. (left last).0 (subst (λ ws. OptionsFrom last o ws) (sym cut) (one o new front others is from)),
  λ all. goes_on last o new front others is (subst (λ ws. OptionsFrom last o ws) cut ((left last).1 all)),
)

-- none is taken, and words are left
pub left_stops : (words : List (List ℕ)) (o : Options) (rest : List (List ℕ)) (word : List ℕ) (others : List (List ℕ)) → rest ≡ word ∷ others → Left words o rest → NoOption o (word ∷ others)
    → (options : Options) → AreOptions words options → ⊥
left_stops words o rest word others cut left never last all = stops last o word others never (subst (λ ws. OptionsFrom last o ws) cut ((left last).1 all))

-- fewer are left
takes_fewer : (k : Kind) (o new : Options) (words others : List (List ℕ)) → Takes k o words new others → length others ≤ length words
takes_fewer Lose o new words others (n, is, between, free, made) = let size : length words ≡ suc (length others) = ap length is in omega (arith, size)
takes_fewer Repeat o new words others (n, is, between, free, made) = let size : length words ≡ suc (length others) = ap length is in omega (arith, size)
takes_fewer By o new words others (Uniform, is, free, made) = let size : length words ≡ suc (length others) = ap length is in omega (arith, size)
takes_fewer By o new words others (Priorities n, is, free, made) = let size : length words ≡ suc (suc (length others)) = ap length is.0 in omega (arith, size)
takes_fewer By o new words others (Turns, is, free, made) = let size : length words ≡ suc (length others) = ap length is in omega (arith, size)
takes_fewer Jobs o new words others (n, is, between, free, made) = let size : length words ≡ suc (length others) = ap length is in omega (arith, size)
takes_fewer Coverage o new words others (is, free, made) = let size : length words ≡ length others = ap length is in omega (arith, size)
takes_fewer Quiet o new words others (is, free, made) = let size : length words ≡ length others = ap length is in omega (arith, size)

pub left_fewer : (rest : List (String Global)) (o new : Options) (front : List (List ℕ)) (others : List (String Global)) → map string_bytes rest ≡ front → IsOption o front new (map string_bytes others) → length others < length rest
left_fewer rest o new front others cut is =
    let size : length front ≡ suc (length is.behind) = ap length is.words_are in
    let whole : length rest ≡ length front = sym (counted rest) ∙ ap length cut in
    let part : length (map string_bytes others) ≡ length others = counted others in
    let fewer : length (map string_bytes others) ≤ length is.behind = takes_fewer is.kind o new is.behind (map string_bytes others) is.takes in
    omega (arith, size, whole, part, fewer)

-- nothing is left
pub left_ends : (words : List (List ℕ)) (o : Options) (rest : List (String Global)) → length rest < 1 → Left words o (map string_bytes rest) → AreOptions words o
left_ends words o [] empty left = (left o).0 (none o [] refl refl)
left_ends words o (word ∷ rest) empty left = absurd (omega (arith, empty))
