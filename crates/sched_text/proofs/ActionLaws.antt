-- The line of an action is its word, and what follows that.
use Rattle.std.proofs.Common.{◌≡◌, refl, sym, ◌∙◌, ap, subst, ℕ, true, false, List, ◌∷◌, ◌++◌, append-nil}
use Rattle.std.proofs.lemmas.List.Sums.{AllPass-from_list_all}
use Rattle.std.specs.List.{list_all}
use Rattle.std.specs.Prelude.{◌==◌, not, Option, Some, None, codes, decimal, slice_index_or}
use Rattle.da_lang.specs.declared.event.Action.{Action}
use Rattle.da_lang.specs.declared.event.Action.TheVariants as action
use Rattle.da_values.specs.Value.{val_of}
use Rattle.sched_text.specs.ActionText.{fault_word}
use Rattle.sched_text.specs.Reading.{Stops}
use Rattle.sched_text.proofs.WordLemmas.{IsWord, one_cut}
use Rattle.sched_text.specs.declared.kind.Kind.{Kind}
use Rattle.sched_text.specs.declared.kind.Kind.TheVariants.{Took, Sent, Got, Lost, Again, Out, End, Fault, Answer, Kept, Stop}
use Rattle.sched_text.specs.ActionReading.{IsAfter, Lacks, after_kind, kind_is, kind_named, kind_word, number_then}
use Rattle.sched_text.specs.ActionLine.{IsAction, IsActionLine, IsLineOf, bare_line}

-- a test of each byte, for a word that is written out
pub plain : (word : List ℕ) → list_all (λ b. not (b == 32)) word ≡ true → IsWord word
plain word tested = λ k d inside same.
    let passed : not (slice_index_or word k d == 32) ≡ true = AllPass-from_list_all (λ b. not (b == 32)) word tested k d inside in
    let clash : false ≡ true = ap (λ b. not (b == 32)) (sym same) ∙ passed in
    cc

kind_plain : (kind : Kind) → IsWord (kind_word kind)
kind_plain Took = plain (codes "took") refl
kind_plain Sent = plain (codes "sent") refl
kind_plain Got = plain (codes "got") refl
kind_plain Lost = plain (codes "lost") refl
kind_plain Again = plain (codes "again") refl
kind_plain Out = plain (codes "out") refl
kind_plain End = plain (codes "end") refl
kind_plain Fault = plain (codes "fault") refl
kind_plain Answer = plain (codes "answer") refl
kind_plain Kept = plain (codes "kept") refl
kind_plain Stop = plain (codes "stop") refl

named_again : (kind : Kind) → kind_named (kind_word kind) ≡ Some kind
named_again Took = refl
named_again Sent = refl
named_again Got = refl
named_again Lost = refl
named_again Again = refl
named_again Out = refl
named_again End = refl
named_again Fault = refl
named_again Answer = refl
named_again Kept = refl
named_again Stop = refl

after_stops : (a : Action) → Stops (after_kind a)
after_stops (action.Took p k) = refl
after_stops (action.Sent p q t v) = refl
after_stops (action.Got q p t v) = refl
after_stops (action.Lost p q t) = refl
after_stops (action.Again p q t) = refl
after_stops (action.Out p v) = refl
after_stops (action.End p) = refl
after_stops (action.Fault p kind line) = refl
after_stops (action.Answer p n rows) = refl
after_stops (action.Kept p n) = refl
after_stops (action.Stop i) = refl

-- its words with spaces between are its word and what follows that
words_cut : (a : Action) → bare_line a ≡ kind_word (kind_is a) ++ after_kind a
words_cut (action.Took p k) = ap (λ x. codes "took" ++ number_then p (32 ∷ x)) (sym (append-nil (decimal k)))
words_cut (action.Sent p q t v) = refl
words_cut (action.Got q p t v) = refl
words_cut (action.Lost p q t) = ap (λ x. codes "lost" ++ number_then p (number_then q (32 ∷ x))) (sym (append-nil (decimal t)))
words_cut (action.Again p q t) = ap (λ x. codes "again" ++ number_then p (number_then q (32 ∷ x))) (sym (append-nil (decimal t)))
words_cut (action.Out p v) = refl
words_cut (action.End p) = ap (λ x. codes "end" ++ 32 ∷ x) (sym (append-nil (decimal p)))
words_cut (action.Fault p kind line) = ap (λ x. codes "fault" ++ number_then p (32 ∷ (fault_word kind ++ 32 ∷ x))) (sym (append-nil (decimal line)))
words_cut (action.Answer p n rows) = refl
words_cut (action.Kept p n) = ap (λ x. codes "kept" ++ number_then p (32 ∷ x)) (sym (append-nil (decimal n)))
words_cut (action.Stop i) = ap (λ x. codes "stop" ++ 32 ∷ x) (sym (append-nil (decimal i)))

line_cut : (a : Action) (line : List ℕ) → line ≡ bare_line a → line ≡ kind_word (kind_is a) ++ after_kind a
line_cut a line is = is ∙ words_cut a

-- what was read after a word makes a line
pub line_of_after : (a : Action) (kind : Kind) (word rest line : List ℕ) → line ≡ word ++ rest → word ≡ kind_word kind → IsAfter kind rest a → IsLineOf a line
line_of_after a kind word rest line cut word_is found =
    let same : word ≡ kind_word (kind_is a) = word_is ∙ ap kind_word (sym found.kind_same) in
    record { action = found.action; is = cut ∙ ap (λ w. w ++ rest) same ∙ ap (λ r. kind_word (kind_is a) ++ r) found.is ∙ sym (words_cut a) }

-- no action follows where those of its kind do not
lacks_action : (a : Action) (rest : List ℕ) → Lacks (kind_is a) rest → IsAction a → rest ≡ after_kind a → ⊥
lacks_action (action.Took p k) rest lacks fits is = lacks p k fits.0 fits.1 is
lacks_action (action.Sent p q t v) rest lacks fits is = lacks p q t (val_of v) fits.0 fits.1 fits.2 fits.3 is
lacks_action (action.Got q p t v) rest lacks fits is = lacks q p t (val_of v) fits.0 fits.1 fits.2 fits.3 is
lacks_action (action.Lost p q t) rest lacks fits is = lacks p q t fits.0 fits.1 fits.2 is
lacks_action (action.Again p q t) rest lacks fits is = lacks p q t fits.0 fits.1 fits.2 is
lacks_action (action.Out p v) rest lacks fits is = lacks p (val_of v) fits.0 fits.1 is
lacks_action (action.End p) rest lacks fits is = lacks p fits is
lacks_action (action.Fault p kind line) rest lacks fits is = lacks p line kind fits.0 fits.1 is
lacks_action (action.Answer p n rows) rest lacks fits is = lacks p n rows fits.0 fits.1 fits.2 is
lacks_action (action.Kept p n) rest lacks fits is = lacks p n fits.0 fits.1 is
lacks_action (action.Stop i) rest lacks fits is = lacks i fits is

-- the word of a line, and what follows it
pub cut_line : (a : Action) (word rest line : List ℕ) → line ≡ word ++ rest → IsWord word → Stops rest → IsLineOf a line → (word ≡ kind_word (kind_is a)) × (rest ≡ after_kind a)
cut_line a word rest line cut plain_word stops one =
    one_cut word (kind_word (kind_is a)) rest (after_kind a) plain_word (kind_plain (kind_is a)) stops (after_stops a) (sym cut ∙ line_cut a line one.is)

-- what a word names
kind_found : (a : Action) (word : List ℕ) (found : Option Kind) → found ≡ kind_named word → word ≡ kind_word (kind_is a) → found ≡ Some (kind_is a)
kind_found a word found said is = said ∙ ap kind_named is ∙ named_again (kind_is a)

pub same_kind : (a : Action) (kind : Kind) (word : List ℕ) (found : Option Kind) → found ≡ kind_named word → found ≡ Some kind → word ≡ kind_word (kind_is a) → kind ≡ kind_is a
same_kind a kind word found said is word_is =
    let both : ◌≡◌ {A = Option Kind} (Some kind) (Some (kind_is a)) = sym is ∙ kind_found a word found said word_is in
    cc

pub no_action_after : (kind : Kind) (word rest line : List ℕ) (found : Option Kind) → line ≡ word ++ rest → IsWord word → Stops rest → found ≡ kind_named word → found ≡ Some kind → Lacks kind rest → IsActionLine line → ⊥
no_action_after kind word rest line found cut plain_word stops said is lacks (a, one) =
    let (word_is, rest_is) = cut_line a word rest line cut plain_word stops one in
    lacks_action a rest (subst (λ k. Lacks k rest) (same_kind a kind word found said is word_is) lacks) one.action rest_is

pub no_action_named : (word rest line : List ℕ) (found : Option Kind) → line ≡ word ++ rest → IsWord word → Stops rest → found ≡ kind_named word → found ≡ None → IsActionLine line → ⊥
no_action_named word rest line found cut plain_word stops said is (a, one) =
    let (word_is, rest_is) = cut_line a word rest line cut plain_word stops one in
    let clash : ◌≡◌ {A = Option Kind} None (Some (kind_is a)) = sym is ∙ kind_found a word found said word_is in
    absurd (cc)
