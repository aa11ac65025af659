-- The codes of the protocol for what cannot be answered. `negsuc n` is -(n + 1).
use Rattle.std.specs.Prelude.{ℤ, negsuc, List, ℕ, codes}
use Rattle.lsp_server.specs.declared.fault.Fault.{Fault}
use Rattle.lsp_server.specs.declared.fault.Fault.TheVariants.{Unread, Invalid, NoMethod, BadParams, NotBegun}

-- -32700, -32600, -32601, -32602 and -32002
abbrev pub code_of : Fault → ℤ
code_of Unread = negsuc 32699
code_of Invalid = negsuc 32599
code_of NoMethod = negsuc 32600
code_of BadParams = negsuc 32601
code_of NotBegun = negsuc 32001

abbrev pub text_of : Fault → List ℕ
text_of Unread = codes "the content is no JSON, or its header tells no length"
text_of Invalid = codes "this is no request that can be answered now"
text_of NoMethod = codes "there is no such method"
text_of BadParams = codes "the method takes other parameters"
text_of NotBegun = codes "initialize comes first"
