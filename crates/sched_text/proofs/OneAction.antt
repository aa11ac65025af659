-- A line is that of one action at most.
use Rattle.std.proofs.Common.{◌≡◌, refl, sym, ◌∙◌, ap, subst, ℕ, List, [], ◌++◌, arith}
use Rattle.std.specs.Prelude.{IfOk, IsErrOf, MatchResult, Option, Some, Result, Ok, Err}
use Rattle.da_lang.specs.declared.event.Action.{Action}
use Rattle.da_lang.specs.declared.event.Action.TheVariants as action
use Rattle.da_lang.specs.declared.event.FaultKind.{FaultKind}
use Rattle.da_lang.specs.declared.event.FaultKind.TheVariants.{Overflow, Divide, Range, Message, TooLong}
use Rattle.da_values.specs.declared.read.ValueFault.{ValueFault}
use Rattle.da_values.specs.declared.read.ValueFault.TheVariants.{Unread, Memory}
use Rattle.da_values.specs.declared.val.Val.{Val}
use Rattle.da_values.specs.declared.val.Val.TheVariants as val
use Rattle.da_values.specs.declared.value.Value.{Value}
use Rattle.da_values.specs.declared.value.Value.TheVariants as kept
use Rattle.da_values.specs.Value.{val_of}
use Rattle.da_values.proofs.ViewLaws.{val_of_injective}
use Rattle.sched_text.specs.declared.kind.Kind.{Kind}
use Rattle.sched_text.specs.declared.kind.Kind.TheVariants.{Took, Sent, Got, Lost, Again, Out, End, Fault, Answer, Kept, Stop}
use Rattle.sched_text.specs.ActionLine.{Fits, IsAction, IsLineOf, IsShown}
use Rattle.sched_text.specs.ActionReading.{HasOneText, IsAfter, IsOneText, Lacks, after_kind, fault_after, fault_named, kind_is, kind_named, number_then, route_then, value_after}
use Rattle.sched_text.specs.ActionText.{fault_word}
use Rattle.sched_text.specs.Reading.{Stops}
use Rattle.sched_text.proofs.ActionLaws.{cut_line, no_action_after, same_kind}
use Rattle.sched_text.proofs.FaultLaws.{fault_plain}
use Rattle.sched_text.proofs.NumberLaws.{one_front}
use Rattle.sched_text.proofs.WordLemmas.{IsWord, one_cut}

-- the one action of this kind whose line goes on so
abbrev IsThe : Kind → List ℕ → Action → Type 0
IsThe Took rest a = (p k : ℕ) → Fits 16 p → Fits 32 k → rest ≡ number_then p (number_then k []) → action.Took p k ≡ a
IsThe Sent rest a = (p q t : ℕ) (v : Value) → Fits 16 p → Fits 16 q → Fits 64 t → IsShown (val_of v) → rest ≡ route_then p q t (value_after (val_of v)) → action.Sent p q t v ≡ a
IsThe Got rest a = (q p t : ℕ) (v : Value) → Fits 16 q → Fits 16 p → Fits 64 t → IsShown (val_of v) → rest ≡ route_then q p t (value_after (val_of v)) → action.Got q p t v ≡ a
IsThe Lost rest a = (p q t : ℕ) → Fits 16 p → Fits 16 q → Fits 64 t → rest ≡ route_then p q t [] → action.Lost p q t ≡ a
IsThe Again rest a = (p q t : ℕ) → Fits 16 p → Fits 16 q → Fits 64 t → rest ≡ route_then p q t [] → action.Again p q t ≡ a
IsThe Out rest a = (p : ℕ) (v : Value) → Fits 16 p → IsShown (val_of v) → rest ≡ number_then p (value_after (val_of v)) → action.Out p v ≡ a
IsThe End rest a = (p : ℕ) → Fits 16 p → rest ≡ number_then p [] → action.End p ≡ a
IsThe Fault rest a = (p line : ℕ) (kind : FaultKind) → Fits 16 p → Fits 32 line → rest ≡ number_then p (fault_after kind line) → action.Fault p kind line ≡ a
IsThe Answer rest a = (p n : ℕ) (rows : List Val) → Fits 16 p → Fits 32 n → IsShown (val.Set rows) → rest ≡ number_then p (number_then n (value_after (val.Set rows))) → action.Answer p n rows ≡ a
IsThe Kept rest a = (p n : ℕ) → Fits 16 p → Fits 128 n → rest ≡ number_then p (number_then n []) → action.Kept p n ≡ a
IsThe Stop rest a = (i : ℕ) → Fits 64 i → rest ≡ number_then i [] → action.Stop i ≡ a

-- numbers
front16 : (m n : ℕ) (r s : List ℕ) → Fits 16 m → Fits 16 n → Stops r → Stops s → number_then m r ≡ number_then n s → (m ≡ n) × (r ≡ s)
front16 m n r s p q u v same = one_front m n r s (omega (arith, p)) (omega (arith, q)) u v same

front32 : (m n : ℕ) (r s : List ℕ) → Fits 32 m → Fits 32 n → Stops r → Stops s → number_then m r ≡ number_then n s → (m ≡ n) × (r ≡ s)
front32 m n r s p q u v same = one_front m n r s (omega (arith, p)) (omega (arith, q)) u v same

front64 : (m n : ℕ) (r s : List ℕ) → Fits 64 m → Fits 64 n → Stops r → Stops s → number_then m r ≡ number_then n s → (m ≡ n) × (r ≡ s)
front64 m n r s p q u v same = one_front m n r s (omega (arith, p)) (omega (arith, q)) u v same

-- the numbers of a message
pub record SameRoute (a b t p q u : ℕ) (r s : List ℕ) : Type 0 where
  pub first : a ≡ p
  pub second : b ≡ q
  pub time : t ≡ u
  pub rest : r ≡ s

one_route : (a b t p q u : ℕ) (r s : List ℕ) → Fits 16 a × Fits 16 b × Fits 64 t → Fits 16 p → Fits 16 q → Fits 64 u → Stops r → Stops s → route_then a b t r ≡ route_then p q u s → SameRoute a b t p q u r s
one_route a b t p q u r s fits fits_p fits_q fits_u stops ends same =
    let (first, one) = front16 a p (number_then b (number_then t r)) (number_then q (number_then u s)) fits.0 fits_p refl refl same in
    let (second, two) = front16 b q (number_then t r) (number_then u s) fits.1 fits_q refl refl one in
    let (time, rest) = front64 t u r s fits.2 fits_u stops ends two in
    record { first = first; second = second; time = time; rest = rest }

-- values
one_value : (x y : Val) → IsOneText x → IsShown y → value_after x ≡ value_after y → y ≡ x
one_value x y one shown same = one y shown (cc)

one_kept : (v w : Value) → IsOneText (val_of v) → IsShown (val_of w) → value_after (val_of v) ≡ value_after (val_of w) → w ≡ v
one_kept v w one shown same = val_of_injective w v (one_value (val_of v) (val_of w) one shown same)

-- kinds of faults
fault_again : (kind : FaultKind) → fault_named (fault_word kind) ≡ Some kind
fault_again Overflow = refl
fault_again Divide = refl
fault_again Range = refl
fault_again Message = refl
fault_again TooLong = refl

one_fault : (kind other : FaultKind) (line more : ℕ) → Fits 32 line → Fits 32 more → fault_after kind line ≡ fault_after other more → (kind ≡ other) × (line ≡ more)
one_fault kind other line more fits fits_more same =
    let tails : fault_word kind ++ number_then line [] ≡ fault_word other ++ number_then more [] = cc in
    let (word, rest) = one_cut (fault_word kind) (fault_word other) (number_then line []) (number_then more []) (fault_plain kind) (fault_plain other) refl refl tails in
    let both : ◌≡◌ {A = Option FaultKind} (Some kind) (Some other) = sym (fault_again kind) ∙ ap fault_named word ∙ fault_again other in
    (cc, (front32 line more [] [] fits fits_more tt tt rest).0)

-- what follows the word of an action follows that of no other of its kind
the_action : (a : Action) → IsAction a → HasOneText a → IsThe (kind_is a) (after_kind a) a
the_action (action.Took p k) fits one = λ p2 k2 fits_p fits_k same.
    let (first, rest) = front16 p p2 (number_then k []) (number_then k2 []) fits.0 fits_p refl refl same in
    let (second, end) = front32 k k2 [] [] fits.1 fits_k tt tt rest in
    cc
the_action (action.Sent p q t v) fits one = λ p2 q2 t2 v2 fits_p fits_q fits_t shown same.
    let route = one_route p q t p2 q2 t2 (value_after (val_of v)) (value_after (val_of v2)) (fits.0, fits.1, fits.2) fits_p fits_q fits_t refl refl same in
    let first = route.first in
    let second = route.second in
    let time = route.time in
    let value = one_kept v v2 one shown route.rest in
    cc
the_action (action.Got q p t v) fits one = λ q2 p2 t2 v2 fits_q fits_p fits_t shown same.
    let route = one_route q p t q2 p2 t2 (value_after (val_of v)) (value_after (val_of v2)) (fits.0, fits.1, fits.2) fits_q fits_p fits_t refl refl same in
    let first = route.first in
    let second = route.second in
    let time = route.time in
    let value = one_kept v v2 one shown route.rest in
    cc
the_action (action.Lost p q t) fits one = λ p2 q2 t2 fits_p fits_q fits_t same.
    let route = one_route p q t p2 q2 t2 [] [] (fits.0, fits.1, fits.2) fits_p fits_q fits_t tt tt same in
    let first = route.first in
    let second = route.second in
    let time = route.time in
    cc
the_action (action.Again p q t) fits one = λ p2 q2 t2 fits_p fits_q fits_t same.
    let route = one_route p q t p2 q2 t2 [] [] (fits.0, fits.1, fits.2) fits_p fits_q fits_t tt tt same in
    let first = route.first in
    let second = route.second in
    let time = route.time in
    cc
the_action (action.Out p v) fits one = λ p2 v2 fits_p shown same.
    let (first, rest) = front16 p p2 (value_after (val_of v)) (value_after (val_of v2)) fits.0 fits_p refl refl same in
    let value = one_kept v v2 one shown rest in
    cc
the_action (action.End p) fits one = λ p2 fits_p same.
    let (first, rest) = front16 p p2 [] [] fits fits_p tt tt same in
    cc
the_action (action.Fault p kind line) fits one = λ p2 line2 kind2 fits_p fits_line same.
    let (first, rest) = front16 p p2 (fault_after kind line) (fault_after kind2 line2) fits.0 fits_p refl refl same in
    let (kinds, lines) = one_fault kind kind2 line line2 fits.1 fits_line rest in
    cc
the_action (action.Answer p n rows) fits one = λ p2 n2 rows2 fits_p fits_n shown same.
    let (first, rest) = front16 p p2 (number_then n (value_after (val.Set rows))) (number_then n2 (value_after (val.Set rows2))) fits.0 fits_p refl refl same in
    let (second, end) = front32 n n2 (value_after (val.Set rows)) (value_after (val.Set rows2)) fits.1 fits_n refl refl rest in
    let values = one_kept (kept.Set rows) (kept.Set rows2) one shown end in
    cc
the_action (action.Kept p n) fits one = λ p2 n2 fits_p fits_n same.
    let (first, rest) = front16 p p2 (number_then n []) (number_then n2 []) fits.0 fits_p refl refl same in
    let (second, end) = one_front n n2 [] [] fits.1 fits_n tt tt rest in
    cc
the_action (action.Stop i) fits one = λ i2 fits_i same.
    let (first, rest) = front64 i i2 [] [] fits fits_i tt tt same in
    cc

is_the : (b a : Action) (rest : List ℕ) → IsThe (kind_is b) rest a → IsAction b → rest ≡ after_kind b → b ≡ a
is_the (action.Took p k) a rest the fits is = the p k fits.0 fits.1 is
is_the (action.Sent p q t v) a rest the fits is = the p q t v fits.0 fits.1 fits.2 fits.3 is
is_the (action.Got q p t v) a rest the fits is = the q p t v fits.0 fits.1 fits.2 fits.3 is
is_the (action.Lost p q t) a rest the fits is = the p q t fits.0 fits.1 fits.2 is
is_the (action.Again p q t) a rest the fits is = the p q t fits.0 fits.1 fits.2 is
is_the (action.Out p v) a rest the fits is = the p v fits.0 fits.1 is
is_the (action.End p) a rest the fits is = the p fits is
is_the (action.Fault p kind line) a rest the fits is = the p line kind fits.0 fits.1 is
is_the (action.Answer p n rows) a rest the fits is = the p n rows fits.0 fits.1 fits.2 is
is_the (action.Kept p n) a rest the fits is = the p n fits.0 fits.1 is
is_the (action.Stop i) a rest the fits is = the i fits is

one_after : (a b : Action) → IsAction a → HasOneText a → IsAction b → kind_is a ≡ kind_is b → after_kind a ≡ after_kind b → a ≡ b
one_after a b fits one fits_b kinds same = sym (is_the b a (after_kind a) (subst (λ k. IsThe k (after_kind a) a) kinds (the_action a fits one)) fits_b same)

-- what was read is the action of the line
pub only_action : (kind : Kind) (word rest line : List ℕ) (found : Option Kind) (r : Result Action ValueFault) (a : Action) → line ≡ word ++ rest → IsWord word → Stops rest → found ≡ kind_named word → found ≡ Some kind
    → IfOk r (IsAfter kind rest) → (IsErrOf r Unread → Lacks kind rest) → IsLineOf a line → MatchResult r (λ b. b ≡ a) (λ fault. fault ≡ Memory)
only_action kind word rest line found (Ok b) a cut plain stops said is read unread one =
    let (word_is, rest_is) = cut_line a word rest line cut plain stops one in
    one_after b a read.action read.one_text one.action (read.kind_same ∙ same_kind a kind word found said is word_is) (sym read.is ∙ rest_is)
only_action kind word rest line found (Err Memory) a cut plain stops said is read unread one = refl
only_action kind word rest line found (Err Unread) a cut plain stops said is read unread one = absurd (no_action_after kind word rest line found cut plain stops said is (unread refl) (a, one))
