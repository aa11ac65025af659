-- One turn of the reader of messages and classes, as a loop takes it.
use Rattle.std.proofs.Common.{◌≡◌, ℕ, suc, ◌+◌, ◌-◌, ◌<◌, ◌≤◌, List, [], length, refl, ap, arith}
use Rattle.da_values.specs.Marks.{Tok}
use Rattle.da_lang.specs.declared.tree.ClassTree.{ClassTree}
use Rattle.da_lang.specs.declared.tree.MessageDecl.{MessageDecl}
use Rattle.da_lang.specs.declared.ty.ChannelKind.{ChannelKind}
use Rattle.da_phrases.specs.Reader.{by_mark}
use Rattle.da_parse.specs.Programs.{Outer, decls, decls_from, decls_by, program_end}

module _ (o : Outer) (k : ChannelKind) where
  pub decls_start : (i : List Tok) → decls o k i ≡ decls_from o k (length i) [] [] i
  unfolding decls
  decls_start i = refl

  pub decls_turn : (n at : ℕ) (xs : List MessageDecl) (cs : List ClassTree) (i : List Tok) → at < n
      → decls_from o k (n - at) xs cs i ≡ by_mark (decls_by o k (decls_from o k (n - (at + 1))) xs cs) i
  unfolding decls_from
  decls_turn n at xs cs i h = let e : n - at ≡ suc (n - (at + 1)) = omega arith in ap (λ c. decls_from o k c xs cs i) e

  pub decls_finish : (n at : ℕ) (xs : List MessageDecl) (cs : List ClassTree) (i : List Tok) → n ≤ at → decls_from o k (n - at) xs cs i ≡ program_end o k xs cs i
  unfolding decls_from
  decls_finish n at xs cs i h = let e : n - at ≡ 0 = omega arith in ap (λ c. decls_from o k c xs cs i) e

pub ruleset decls_loop = (decls_start, decls_turn, decls_finish)
