use Rattle.std.proofs.Common.{ℕ, ◌≡◌, ◌<◌, [], ◌∷◌, ◌&&◌, false, nat_le, ap, arith}
use Rattle.std.proofs.Output.{has_written_of_eq}
use Rattle.std.proofs.lemmas.Fmt.{hex_byte}
use Rattle.std.specs.Fmt.{padded_integral, format_spec, digits}
use Rattle.bpf_asm.specs.Messages.{shown_byte}
use Rattle.bpf_asm.proofs.flaw.write_byte.Goals as goal

-- for a byte that isn't printable ASCII, `\x{byte:02x}` writes the text `shown_byte` of this byte
hex_text : (byte : ℕ) → byte < 256 → nat_le 32 byte && nat_le byte 126 ≡ false →
    92 ∷ 120 ∷ padded_integral (format_spec 32 0 4 2 18446744073709551615) false [] (digits 16 false byte) ≡ shown_byte byte
hex_text byte small other = rw other (ap (λ ds. 92 ∷ 120 ∷ ds) (hex_byte false byte small))

pub returns-else-contains : goal.returns-else-contains
returns-else-contains g c =
    let small : c.args.byte < 256 = omega (arith, c.ranges.byte) in
    let other : nat_le 32 c.args.byte && nat_le c.args.byte 126 ≡ false = grind (arith, c.if-contains.false, c.contains.ensures.cases) in
    let writes = rw c.laid_out.ensures at (rw c.in_radix.ensures at c.write.ensures.writes) in
    λ p q. has_written_of_eq _ _ _ _ _ (hex_text c.args.byte small other) (writes p q)
