-- How many tokens spell a type.
use Rattle.std.specs.Prelude.{◌≡◌, refl, ℕ, zero, suc, ◌+◌, List, ◌∷◌, map, length}
use Rattle.std.proofs.Common.{ap, arith}
use Rattle.da_values.specs.declared.token.Mark.{Mark}
use Rattle.da_values.specs.declared.token.Mark.TheVariants as m
use Rattle.da_values.specs.Marks.{Tok}
use Rattle.da_lang.specs.declared.ty.Ty.{Ty}
use Rattle.da_lang.specs.Spelling.{Spelling, Room, At, Opens, Separated, Closed}
use Rattle.da_lang.specs.TypeGrammar.{IsType, TypeIn}
use Rattle.type_choice.specs.Looks.{commas, total, tokens}
use Rattle.type_choice.proofs.CountLaws.{length_map, tokens-Int, tokens-Bool, tokens-Text, tokens-Proc, tokens-Tuple, tokens-Set}

at_passes : {k : Mark} {t r : List Tok} → At k t r → length t ≡ suc (length r)
at_passes (At.at is) = refl

opens_passes : {k : Mark} {room : Room} {t r : List Tok} → Opens k room t r → length t ≡ suc (length r)
opens_passes (Opens.opens some h) = at_passes h

module _ {Inner : Spelling Ty} (inner : (x : Ty) (t r : List Tok) → Inner x t r → length t ≡ tokens x + length r) where
  separated : {xs : List Ty} {t r : List Tok} → Separated m.Comma Inner xs t r → suc (length t) ≡ length xs + total (map tokens xs) + length r
  separated (Separated.last {x} {t} {r} h) = omega (arith, inner x t r h)
  separated (Separated.more {x} {xs} {t} {r} h comma rest) = omega (arith, inner x t r h, at_passes comma, separated rest)

  some_of : {xs : List Ty} {t r : List Tok} → Separated m.Comma Inner xs t r → commas (suc (length xs)) ≡ length xs
  some_of (Separated.last h) = refl
  some_of (Separated.more h comma rest) = refl

  closed : {xs : List Ty} {t r : List Tok} → Closed m.CloseParen Inner xs t r → length t ≡ commas (suc (length xs)) + total (map tokens xs) + length r
  closed (Closed.empty h) = omega (arith, at_passes h)
  closed (Closed.full h close) = omega (arith, separated h, some_of h, at_passes close)

  spelled_type : {room : Room} (x : Ty) (t r : List Tok) → IsType room Inner x t r → length t ≡ tokens x + length r
  spelled_type _ t r (IsType.int h) = omega (arith, at_passes h, tokens-Int)
  spelled_type _ t r (IsType.bool h) = omega (arith, at_passes h, tokens-Bool)
  spelled_type _ t r (IsType.str h) = omega (arith, at_passes h, tokens-Text)
  spelled_type _ t r (IsType.proc h) = omega (arith, at_passes h, tokens-Proc)
  spelled_type _ t r (IsType.set {x} h o a e) = omega (arith, at_passes h, opens_passes o, inner x _ _ a, at_passes e, tokens-Set x)
  spelled_type _ t r (IsType.tuple {x} {xs} o a c l) =
      let size : commas (length (map tokens (x ∷ xs))) ≡ commas (suc (length xs)) = ap (λ n. commas (suc n)) (length_map tokens xs) in
      omega (arith, opens_passes o, inner x _ _ a, at_passes c, closed l, tokens-Tuple (x ∷ xs), size)

pub spelled_by : (room : ℕ → Room) (f d : ℕ) (x : Ty) (t r : List Tok) → TypeIn room f d x t r → length t ≡ tokens x + length r
unfolding TypeIn
spelled_by room zero d x t r h = absurd h
spelled_by room (suc f) d x t r h = spelled_type (spelled_by room f (suc d)) x t r h
