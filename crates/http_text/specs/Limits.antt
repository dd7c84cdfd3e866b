-- The limits of HTTP (this project's own).
use Rattle.std.specs.Prelude.{ℕ}

-- header lines in a head
abbrev pub most_header_lines : ℕ
most_header_lines = 64

-- bytes of a head: bytes of this number that are no whole head yet are a head that is too long
abbrev pub most_head_bytes : ℕ
most_head_bytes = 8192
