-- Packets: their bytes, and how many there are.
use Rattle.std.specs.Prelude.{◌≡◌, ◌++◌, pos, negsuc, true, false, [], ◌∷◌, codes, length}
use Rattle.da_values.specs.declared.val.Val.TheVariants as val
use Rattle.msg_codec.specs.Packets.{packet_bytes}
use Rattle.lang_examples.proofs.PacketForms.{packing}

-- packets, and what they say
packet_1 : packet_bytes 1 1 (val.Tuple (val.Text (codes "ping") ∷ val.Int (pos 5) ∷ [])) ≡ 68 ∷ 65 ∷ 1 ∷ 0 ∷ 1 ∷ 0 ∷ 0 ∷ 0 ∷ 0 ∷ 0 ∷ 0 ∷ 0 ∷ 1 ∷ 116 ∷ 2 ∷ 115 ∷ 0 ∷ 4 ∷ 112 ∷ 105 ∷ 110 ∷ 103 ∷ 105 ∷ 0 ∷ 0 ∷ 0 ∷ 0 ∷ 0 ∷ 0 ∷ 0 ∷ 5 ∷ []
packet_1 = simp packing

packet_2 : packet_bytes 0 9223372036854775807 (val.Text (codes "#")) ≡ 68 ∷ 65 ∷ 1 ∷ 0 ∷ 0 ∷ 127 ∷ 255 ∷ 255 ∷ 255 ∷ 255 ∷ 255 ∷ 255 ∷ 255 ∷ 115 ∷ 0 ∷ 1 ∷ 35 ∷ []
packet_2 = simp packing

packet_3 : packet_bytes 33023 9151595917793558527 (val.Tuple []) ≡ 68 ∷ 65 ∷ 1 ∷ 128 ∷ 255 ∷ 127 ∷ 0 ∷ 255 ∷ 255 ∷ 255 ∷ 255 ∷ 255 ∷ 255 ∷ 116 ∷ 0 ∷ []
packet_3 = simp packing

packet_4 : packet_bytes 65535 5188146770730811393 (val.Int (negsuc 0)) ≡ 68 ∷ 65 ∷ 1 ∷ 255 ∷ 255 ∷ 72 ∷ 0 ∷ 0 ∷ 0 ∷ 0 ∷ 0 ∷ 0 ∷ 1 ∷ 105 ∷ 255 ∷ 255 ∷ 255 ∷ 255 ∷ 255 ∷ 255 ∷ 255 ∷ 255 ∷ []
packet_4 = simp packing

packet_5 : packet_bytes 1 1 (val.Tuple (val.Bool false ∷ val.Set (val.Int (pos 5) ∷ val.Bool false ∷ val.Proc 2 ∷ []) ∷ val.Proc 1 ∷ [])) ≡ 68 ∷ 65 ∷ 1 ∷ 0 ∷ 1 ∷ 0 ∷ 0 ∷ 0 ∷ 0 ∷ 0 ∷ 0 ∷ 0 ∷ 1 ∷ 116 ∷ 3 ∷ 98 ∷ 0 ∷ 83 ∷ 0 ∷ 0 ∷ 0 ∷ 3 ∷ 105 ∷ 0 ∷ 0 ∷ 0 ∷ 0 ∷ 0 ∷ 0 ∷ 0 ∷ 5 ∷ 98 ∷ 0 ∷ 112 ∷ 0 ∷ 2 ∷ 112 ∷ 0 ∷ 1 ∷ []
packet_5 = simp packing

packet_6 : packet_bytes 1 1 (val.Set (val.Bool false ∷ val.Set (val.Text (codes "b") ∷ val.Text (codes "q|r") ∷ []) ∷ [])) ≡ 68 ∷ 65 ∷ 1 ∷ 0 ∷ 1 ∷ 0 ∷ 0 ∷ 0 ∷ 0 ∷ 0 ∷ 0 ∷ 0 ∷ 1 ∷ 83 ∷ 0 ∷ 0 ∷ 0 ∷ 2 ∷ 98 ∷ 0 ∷ 83 ∷ 0 ∷ 0 ∷ 0 ∷ 2 ∷ 115 ∷ 0 ∷ 1 ∷ 98 ∷ 115 ∷ 0 ∷ 3 ∷ 113 ∷ 124 ∷ 114 ∷ []
packet_6 = simp packing

packet_7 : packet_bytes 65535 1 (val.Set (val.Int (pos 940) ∷ val.Bool true ∷ val.Text (codes "ping") ∷ val.Proc 3 ∷ val.Set [] ∷ [])) ≡ 68 ∷ 65 ∷ 1 ∷ 255 ∷ 255 ∷ 0 ∷ 0 ∷ 0 ∷ 0 ∷ 0 ∷ 0 ∷ 0 ∷ 1 ∷ 83 ∷ 0 ∷ 0 ∷ 0 ∷ 5 ∷ 105 ∷ 0 ∷ 0 ∷ 0 ∷ 0 ∷ 0 ∷ 0 ∷ 3 ∷ 172 ∷ 98 ∷ 1 ∷ 115 ∷ 0 ∷ 4 ∷ 112 ∷ 105 ∷ 110 ∷ 103 ∷ 112 ∷ 0 ∷ 3 ∷ 83 ∷ 0 ∷ 0 ∷ 0 ∷ 0 ∷ []
packet_7 = simp packing

-- each kind of value at its ends, from sender 1 at the time 1
packet_8 : packet_bytes 1 1 (val.Int (pos 0)) ≡ 68 ∷ 65 ∷ 1 ∷ 0 ∷ 1 ∷ 0 ∷ 0 ∷ 0 ∷ 0 ∷ 0 ∷ 0 ∷ 0 ∷ 1 ∷ 105 ∷ 0 ∷ 0 ∷ 0 ∷ 0 ∷ 0 ∷ 0 ∷ 0 ∷ 0 ∷ []
packet_8 = simp packing

packet_9 : packet_bytes 1 1 (val.Int (negsuc 0)) ≡ 68 ∷ 65 ∷ 1 ∷ 0 ∷ 1 ∷ 0 ∷ 0 ∷ 0 ∷ 0 ∷ 0 ∷ 0 ∷ 0 ∷ 1 ∷ 105 ∷ 255 ∷ 255 ∷ 255 ∷ 255 ∷ 255 ∷ 255 ∷ 255 ∷ 255 ∷ []
packet_9 = simp packing

packet_10 : packet_bytes 1 1 (val.Int (pos 9223372036854775807)) ≡ 68 ∷ 65 ∷ 1 ∷ 0 ∷ 1 ∷ 0 ∷ 0 ∷ 0 ∷ 0 ∷ 0 ∷ 0 ∷ 0 ∷ 1 ∷ 105 ∷ 127 ∷ 255 ∷ 255 ∷ 255 ∷ 255 ∷ 255 ∷ 255 ∷ 255 ∷ []
packet_10 = simp packing

packet_11 : packet_bytes 1 1 (val.Int (negsuc 9223372036854775807)) ≡ 68 ∷ 65 ∷ 1 ∷ 0 ∷ 1 ∷ 0 ∷ 0 ∷ 0 ∷ 0 ∷ 0 ∷ 0 ∷ 0 ∷ 1 ∷ 105 ∷ 128 ∷ 0 ∷ 0 ∷ 0 ∷ 0 ∷ 0 ∷ 0 ∷ 0 ∷ []
packet_11 = simp packing

packet_12 : packet_bytes 1 1 (val.Bool false) ≡ 68 ∷ 65 ∷ 1 ∷ 0 ∷ 1 ∷ 0 ∷ 0 ∷ 0 ∷ 0 ∷ 0 ∷ 0 ∷ 0 ∷ 1 ∷ 98 ∷ 0 ∷ []
packet_12 = simp packing

packet_13 : packet_bytes 1 1 (val.Bool true) ≡ 68 ∷ 65 ∷ 1 ∷ 0 ∷ 1 ∷ 0 ∷ 0 ∷ 0 ∷ 0 ∷ 0 ∷ 0 ∷ 0 ∷ 1 ∷ 98 ∷ 1 ∷ []
packet_13 = simp packing

packet_14 : packet_bytes 1 1 (val.Text []) ≡ 68 ∷ 65 ∷ 1 ∷ 0 ∷ 1 ∷ 0 ∷ 0 ∷ 0 ∷ 0 ∷ 0 ∷ 0 ∷ 0 ∷ 1 ∷ 115 ∷ 0 ∷ 0 ∷ []
packet_14 = simp packing

packet_15 : packet_bytes 1 1 (val.Text (codes " &~")) ≡ 68 ∷ 65 ∷ 1 ∷ 0 ∷ 1 ∷ 0 ∷ 0 ∷ 0 ∷ 0 ∷ 0 ∷ 0 ∷ 0 ∷ 1 ∷ 115 ∷ 0 ∷ 3 ∷ 32 ∷ 38 ∷ 126 ∷ []
packet_15 = simp packing

packet_16 : packet_bytes 1 1 (val.Proc 1) ≡ 68 ∷ 65 ∷ 1 ∷ 0 ∷ 1 ∷ 0 ∷ 0 ∷ 0 ∷ 0 ∷ 0 ∷ 0 ∷ 0 ∷ 1 ∷ 112 ∷ 0 ∷ 1 ∷ []
packet_16 = simp packing

packet_17 : packet_bytes 1 1 (val.Proc 65535) ≡ 68 ∷ 65 ∷ 1 ∷ 0 ∷ 1 ∷ 0 ∷ 0 ∷ 0 ∷ 0 ∷ 0 ∷ 0 ∷ 0 ∷ 1 ∷ 112 ∷ 255 ∷ 255 ∷ []
packet_17 = simp packing

packet_18 : packet_bytes 1 1 (val.Tuple []) ≡ 68 ∷ 65 ∷ 1 ∷ 0 ∷ 1 ∷ 0 ∷ 0 ∷ 0 ∷ 0 ∷ 0 ∷ 0 ∷ 0 ∷ 1 ∷ 116 ∷ 0 ∷ []
packet_18 = simp packing

packet_19 : packet_bytes 1 1 (val.Tuple (val.Bool true ∷ [])) ≡ 68 ∷ 65 ∷ 1 ∷ 0 ∷ 1 ∷ 0 ∷ 0 ∷ 0 ∷ 0 ∷ 0 ∷ 0 ∷ 0 ∷ 1 ∷ 116 ∷ 1 ∷ 98 ∷ 1 ∷ []
packet_19 = simp packing

packet_20 : packet_bytes 1 1 (val.Tuple (val.Tuple [] ∷ val.Set [] ∷ [])) ≡ 68 ∷ 65 ∷ 1 ∷ 0 ∷ 1 ∷ 0 ∷ 0 ∷ 0 ∷ 0 ∷ 0 ∷ 0 ∷ 0 ∷ 1 ∷ 116 ∷ 2 ∷ 116 ∷ 0 ∷ 83 ∷ 0 ∷ 0 ∷ 0 ∷ 0 ∷ []
packet_20 = simp packing

packet_21 : packet_bytes 1 1 (val.Set []) ≡ 68 ∷ 65 ∷ 1 ∷ 0 ∷ 1 ∷ 0 ∷ 0 ∷ 0 ∷ 0 ∷ 0 ∷ 0 ∷ 0 ∷ 1 ∷ 83 ∷ 0 ∷ 0 ∷ 0 ∷ 0 ∷ []
packet_21 = simp packing

packet_22 : packet_bytes 1 1 (val.Set (val.Proc 2 ∷ [])) ≡ 68 ∷ 65 ∷ 1 ∷ 0 ∷ 1 ∷ 0 ∷ 0 ∷ 0 ∷ 0 ∷ 0 ∷ 0 ∷ 0 ∷ 1 ∷ 83 ∷ 0 ∷ 0 ∷ 0 ∷ 1 ∷ 112 ∷ 0 ∷ 2 ∷ []
packet_22 = simp packing

packet_23 : packet_bytes 1 1 (val.Set (val.Int (negsuc 0) ∷ val.Int (pos 1) ∷ [])) ≡ 68 ∷ 65 ∷ 1 ∷ 0 ∷ 1 ∷ 0 ∷ 0 ∷ 0 ∷ 0 ∷ 0 ∷ 0 ∷ 0 ∷ 1 ∷ 83 ∷ 0 ∷ 0 ∷ 0 ∷ 2 ∷ 105 ∷ 255 ∷ 255 ∷ 255 ∷ 255 ∷ 255 ∷ 255 ∷ 255 ∷ 255 ∷ 105 ∷ 0 ∷ 0 ∷ 0 ∷ 0 ∷ 0 ∷ 0 ∷ 0 ∷ 1 ∷ []
packet_23 = simp packing

packet_24 : packet_bytes 1 1 (val.Set (val.Bool false ∷ val.Bool true ∷ [])) ≡ 68 ∷ 65 ∷ 1 ∷ 0 ∷ 1 ∷ 0 ∷ 0 ∷ 0 ∷ 0 ∷ 0 ∷ 0 ∷ 0 ∷ 1 ∷ 83 ∷ 0 ∷ 0 ∷ 0 ∷ 2 ∷ 98 ∷ 0 ∷ 98 ∷ 1 ∷ []
packet_24 = simp packing

-- the size of a packet, up to 60,000 bytes and beyond
packet_25 : length (packet_bytes 1 1 (val.Int (pos 5))) ≡ 22
packet_25 = simp packing

packet_26 : length (packet_bytes 1 1 (val.Bool true)) ≡ 15
packet_26 = simp packing

packet_27 : length (packet_bytes 1 1 (val.Proc 3)) ≡ 16
packet_27 = simp packing

packet_28 : length (packet_bytes 1 1 (val.Text (codes "abc"))) ≡ 19
packet_28 = simp packing

packet_29 : length (packet_bytes 1 1 (val.Tuple [])) ≡ 15
packet_29 = simp packing

packet_30 : length (packet_bytes 1 1 (val.Tuple (val.Text (codes "ping") ∷ val.Int (pos 5) ∷ []))) ≡ 31
packet_30 = simp packing

packet_31 : length (packet_bytes 1 1 (val.Set (val.Tuple (val.Int (pos 1) ∷ val.Int (pos 2) ∷ []) ∷ val.Tuple (val.Int (pos 3) ∷ val.Int (pos 4) ∷ []) ∷ []))) ≡ 58
packet_31 = simp packing
