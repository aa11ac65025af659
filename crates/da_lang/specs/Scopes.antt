-- Names in scope, and the refusals of a rule: what is refused and at which line.
use Rattle.std.specs.Prelude.{ℕ, nat_lt, ◌==◌, ◌&&◌, ◌||◌, Bool, if◌then◌else◌, List, [], ◌∷◌, ◌++◌, map, Option, Some, None, bytes_eq}

-- each name in scope with what it stands for, the innermost first
abbrev pub Scope : Type 0 → Type 0
Scope A = List (List ℕ × A)

-- what a name stands for
abbrev pub look : {A : Type 0} → Scope A → List ℕ → Option A
look [] name = None
look (entry ∷ outer) name = if bytes_eq entry.0 name then Some entry.1 else look outer name

-- these names come into scope, each as the same
abbrev pub entered : {A : Type 0} → A → List (List ℕ) → Scope A → Scope A
entered means names scope = map (λ name. (name, means)) names ++ scope

-- a refusal, by its kind and line
pub record Refused (K : Type 0) : Type 0 where
  pub kind : K
  pub line : ℕ

abbrev pub at_line : {K : Type 0} → ℕ → List K → List (Refused K)
at_line line kinds = map (λ kind. record { kind = kind; line = line }) kinds

abbrev pub at_lines : {K : Type 0} → K → List ℕ → List (Refused K)
at_lines kind lines = map (λ line. record { kind = kind; line = line }) lines

-- the earlier line is reported first, and on one line the lesser rank
abbrev pub sooner : {K : Type 0} → (K → ℕ) → Refused K → Refused K → Bool
sooner rank x y = nat_lt x.line y.line || ((x.line == y.line) && nat_lt (rank x.kind) (rank y.kind))

abbrev pub sooner_of : {K : Type 0} → (K → ℕ) → Refused K → Option (Refused K) → Refused K
sooner_of rank x None = x
sooner_of rank x (Some y) = if sooner rank y x then y else x

-- the one of these refusals that is reported
abbrev pub told : {K : Type 0} → (K → ℕ) → List (Refused K) → Option (Refused K)
told rank [] = None
told rank (x ∷ xs) = Some (sooner_of rank x (told rank xs))
