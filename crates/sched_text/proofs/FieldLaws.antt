-- What no line can be, once a prefix of it was read.
use Rattle.std.proofs.Common.{◌≡◌, refl, ap, ℕ, ◌≤◌, List, [], length, arith}
use Rattle.std.proofs.Common.{false}
use Rattle.std.specs.Prelude.{◌==◌}
use Rattle.std.proofs.lemmas.Bool.Decides.{nat_tests}
use Rattle.da_values.specs.declared.val.Val.{Val}
use Rattle.sched_text.specs.Reading.{Stops}
use Rattle.sched_text.specs.ActionReading.{LacksMessage, LacksPair, LacksRoute, number_then, route_then, value_after}
use Rattle.sched_text.specs.ActionLine.{Fits, IsShown}
use Rattle.sched_text.proofs.NumberLaws.{rest_of}

-- a process, and something else after it
pub after_process : (p q : ℕ) (bytes rest others : List ℕ) → Fits 16 p → Stops rest → bytes ≡ number_then p rest → Fits 16 q → Stops others → bytes ≡ number_then q others → rest ≡ others
after_process p q bytes rest others fits stops is fits2 stops2 is2 = (rest_of p q bytes rest others (omega (arith, fits)) (omega (arith, fits2)) stops stops2 is is2).1

pub lacks_pair : (bits most p : ℕ) (bytes rest : List ℕ) → ((n : ℕ) → Fits bits n → n ≤ most) → Fits 16 p → Stops rest → bytes ≡ number_then p rest → ((n : ℕ) → n ≤ most → rest ≡ number_then n [] → ⊥) → LacksPair bits bytes
lacks_pair bits most p bytes rest few fits stops is lacks = λ q n fits_q fits_n same.
    lacks n (few n fits_n) (after_process p q bytes rest (number_then n []) fits stops is fits_q refl same)

pub lacks_query : (most p : ℕ) (bytes rest : List ℕ) → ((n : ℕ) → Fits 32 n → n ≤ most) → Fits 16 p → Stops rest → bytes ≡ number_then p rest → ((n : ℕ) (s : List ℕ) → n ≤ most → Stops s → rest ≡ number_then n s → ⊥)
    → (q n : ℕ) (s : List ℕ) → Fits 16 q → Fits 32 n → Stops s → bytes ≡ number_then q (number_then n s) → ⊥
lacks_query most p bytes rest few fits stops is lacks q n s fits_q fits_n stops_s same =
    lacks n s (few n fits_n) stops_s (after_process p q bytes rest (number_then n s) fits stops is fits_q refl same)

-- the numbers of a message
pub lacks_second : (p : ℕ) (bytes rest : List ℕ) → Fits 16 p → Stops rest → bytes ≡ number_then p rest → ((n : ℕ) (s : List ℕ) → Fits 16 n → Stops s → rest ≡ number_then n s → ⊥)
    → (a b t : ℕ) (s : List ℕ) → Fits 16 a → Fits 16 b → Fits 64 t → Stops s → bytes ≡ route_then a b t s → ⊥
lacks_second p bytes rest fits stops is lacks a b t s fits_a fits_b fits_t stops_s same =
    lacks b (number_then t s) fits_b refl (after_process p a bytes rest (number_then b (number_then t s)) fits stops is fits_a refl same)

pub lacks_time : (most p q : ℕ) (bytes rest more : List ℕ) → ((n : ℕ) → Fits 64 n → n ≤ most) → Fits 16 p → Stops rest → bytes ≡ number_then p rest → Fits 16 q → Stops more → rest ≡ number_then q more
    → ((n : ℕ) (s : List ℕ) → n ≤ most → Stops s → more ≡ number_then n s → ⊥)
    → (a b t : ℕ) (s : List ℕ) → Fits 16 a → Fits 16 b → Fits 64 t → Stops s → bytes ≡ route_then a b t s → ⊥
lacks_time most p q bytes rest more few fits stops is fits_q stops_more is_more lacks a b t s fits_a fits_b fits_t stops_s same =
    let after : rest ≡ number_then b (number_then t s) = after_process p a bytes rest (number_then b (number_then t s)) fits stops is fits_a refl same in
    lacks t s (few t fits_t) stops_s (after_process q b rest more (number_then t s) fits_q stops_more is_more fits_b refl after)

-- what stands after the numbers of a message
pub after_route : (a b t p q u : ℕ) (bytes rest others : List ℕ) → Fits 16 a × Fits 16 b × Fits 64 t → Stops rest → bytes ≡ route_then a b t rest → Fits 16 p → Fits 16 q → Fits 64 u → Stops others → bytes ≡ route_then p q u others → rest ≡ others
after_route a b t p q u bytes rest others fits stops is fits_p fits_q fits_u stops2 same =
    let one : number_then b (number_then t rest) ≡ number_then q (number_then u others) = after_process a p bytes (number_then b (number_then t rest)) (number_then q (number_then u others)) fits.0 refl is fits_p refl same in
    let two : number_then t rest ≡ number_then u others = after_process b q (number_then b (number_then t rest)) (number_then t rest) (number_then u others) fits.1 refl refl fits_q refl one in
    (rest_of t u (number_then t rest) rest others (omega (arith, fits.2)) (omega (arith, fits_u)) stops stops2 refl two).1

pub lacks_route : (a b t : ℕ) (bytes rest : List ℕ) → Fits 16 a × Fits 16 b × Fits 64 t → Stops rest → bytes ≡ route_then a b t rest → (length rest ≡ 0 → ⊥) → LacksRoute bytes
lacks_route a b t bytes rest fits stops is more = λ p q u fits_p fits_q fits_u same.
    more (ap length (after_route a b t p q u bytes rest [] fits stops is fits_p fits_q fits_u tt same))

pub lacks_message : (a b t : ℕ) (bytes rest : List ℕ) → Fits 16 a × Fits 16 b × Fits 64 t → Stops rest → bytes ≡ route_then a b t rest → ((x : Val) → IsShown x → rest ≡ value_after x → ⊥) → LacksMessage bytes
lacks_message a b t bytes rest fits stops is lacks = λ p q u x fits_p fits_q fits_u shown same.
    lacks x shown (after_route a b t p q u bytes rest (value_after x) fits stops is fits_p fits_q fits_u refl same)

-- what stands after the number of a query
pub after_query : (p n q m : ℕ) (bytes rest others : List ℕ) → Fits 16 p → Fits 32 n → Stops rest → bytes ≡ number_then p (number_then n rest) → Fits 16 q → Fits 32 m → Stops others → bytes ≡ number_then q (number_then m others) → rest ≡ others
after_query p n q m bytes rest others fits_p fits_n stops is fits_q fits_m stops2 same =
    let one : number_then n rest ≡ number_then m others = after_process p q bytes (number_then n rest) (number_then m others) fits_p refl is fits_q refl same in
    (rest_of n m (number_then n rest) rest others (omega (arith, fits_n)) (omega (arith, fits_m)) stops stops2 refl one).1

-- nothing after the number of a process
pub lacks_end : (p : ℕ) (bytes rest : List ℕ) → Fits 16 p → Stops rest → bytes ≡ number_then p rest → (length rest ≡ 0 → ⊥) → (q : ℕ) → Fits 16 q → bytes ≡ number_then q [] → ⊥
lacks_end p bytes rest fits stops is more q fits_q same = more (ap length (after_process p q bytes rest [] fits stops is fits_q tt same))

pub lacks_last : (most n : ℕ) (bytes rest : List ℕ) → Fits 128 most → n ≤ most → Stops rest → bytes ≡ number_then n rest → (length rest ≡ 0 → ⊥) → (m : ℕ) → m ≤ most → bytes ≡ number_then m [] → ⊥
lacks_last most n bytes rest small few stops is more m few_m same =
    more (ap length (rest_of n m bytes rest [] (omega (arith, few, small)) (omega (arith, few_m, small)) stops tt is same).1)

-- a test for emptiness
pub not_empty : (xs : List ℕ) → false ≡ (length xs == 0) → length xs ≡ 0 → ⊥
not_empty xs tested empty = grind (arith, nat_tests, tested, empty)
