-- The four calls for texts have one clause, over the encoding.
use mathlib.Core.Path.{◌≡◌}
use mathlib.Core.List.{List}
use Prim.Native.Nat.{ℕ}
use contract.Lifetimes.{Lfts}
use Rattle.definitions.specs.Bytes.{little, big}
use Rattle.definitions.specs.Unicode.{Encoding, latin1, utf8, utf16, text_written}
use Rattle.block_replies.specs.Replies.{returned, returned_by}
use Rattle.replies.specs.Replies.{text_c}
use Rattle.replies.specs.declared.texts.Mf4TextReply.{Mf4TextReply}
use Rattle.mf4.specs.Clauses.{Slice, Room}
use Rattle.theorems.specs.ClausesToC.{WritesTextC}

pub text_clause : (e : Encoding) (κs : Lfts 2) (bytes : Slice) (out : Room) (y : Mf4TextReply) (after : List ℕ) → WritesTextC e κs bytes out y after
    → returned y after ≡ returned_by text_c (text_written out.now e bytes.now)
text_clause latin1 κs bytes out y after p = p
text_clause utf8 κs bytes out y after p = p
text_clause (utf16 little) κs bytes out y after p = p
text_clause (utf16 big) κs bytes out y after p = p
