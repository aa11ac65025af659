-- Where no call of a method leads back to it.
use Rattle.std.specs.Prelude.{◌≡◌, ℕ, false, List, Contains}
use Rattle.da_lang.specs.declared.tree.ClassTree.{ClassTree}
use Rattle.da_lang.specs.Calls.{calls_in, leads}

abbrev pub NoneLeadsBack : ClassTree → Type 0
NoneLeadsBack c = (name next : List ℕ) → Contains (calls_in c name) next → leads c next name ≡ false
