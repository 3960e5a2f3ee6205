-- The texts of addresses.
use Rattle.std.specs.Prelude.{◌≡◌, ◌<◌, ◌≤◌, ◌&&◌, ◌||◌, ◌==◌, ℕ, Bool, true, false, not, List, [], ◌∷◌, length, decimal, codes, IsTrue}
use Rattle.std.specs.Char.{is_ascii_alphabetic, is_ascii_alphanumeric, is_ascii_hexdigit}
use Rattle.std.specs.List.{starts_with}
use Rattle.std.specs.List.{before_first, after_first}
use Rattle.std.specs.declared.net.socket_addr.SocketAddr.{SocketAddr}
use Rattle.std.specs.declared.net.socket_addr.SocketAddr.TheVariants.{V4, V6}
use Rattle.std.specs.Net.Grammar.{IsSocketText, IsSocketV4Text, IsSocketV6Text}
use Rattle.escpos_addresses.specs.declared.address.Address.{Address}
use Rattle.escpos_addresses.specs.declared.address.Address.TheVariants.{Numeric, Named, Device}
use Rattle.escpos_addresses.specs.declared.address.TheConstants.{MOST_TEXT}

-- a port in decimal, without leading zeros
abbrev pub IsPort : List ℕ → Type 0
IsPort digits = (port : ℕ) × (port < 65536) × (digits ≡ decimal port)

-- a letter, a digit, a hyphen, a dot or a low line
abbrev pub is_host_character : ℕ → Bool
is_host_character c = is_ascii_alphanumeric c || c == 0x2D || c == 0x2E || c == 0x5F

-- what systems take for an IPv4 address in some other form, as 0x7F.1, has only such characters
abbrev pub is_number_character : ℕ → Bool
is_number_character c = is_ascii_hexdigit c || c == 0x78 || c == 0x58 || c == 0x2E

abbrev pub are_all : (ℕ → Bool) → List ℕ → Bool
are_all holds [] = true
are_all holds (c ∷ more) = holds c && are_all holds more

-- the name of a host: it begins with a letter, or with a digit if it can't be a number
abbrev pub is_host_name : List ℕ → Bool
is_host_name [] = false
is_host_name (c ∷ more) = is_ascii_alphanumeric c && are_all is_host_character (c ∷ more)
    && (is_ascii_alphabetic c || not (are_all is_number_character (c ∷ more)))

-- what stands before the first colon, and after it
abbrev pub before_colon : List ℕ → List ℕ
before_colon text = before_first (λ c. c == 0x3A) text

abbrev pub after_colon : List ℕ → List ℕ
after_colon text = after_first (λ c. c == 0x3A) text

-- the text begins as that of a device file: `file:/`
abbrev pub is_device_text : List ℕ → Bool
is_device_text text = starts_with (λ a b. a == b) text (codes "file:/")

-- the text says this address: `A.B.C.D:P`, `[A:B::C]:P`, `NAME:P` or `file:/PATH`
abbrev pub IsAddress : List ℕ → Address → Type 0
IsAddress text (Numeric (V4 address)) = IsSocketV4Text text address × IsPort (after_colon text)
IsAddress text (Numeric (V6 address)) = IsSocketV6Text text address
IsAddress text (Named name) = ((address : SocketAddr) → ¬ IsSocketText text address) × (is_device_text text ≡ false)
    × IsTrue (is_host_name (before_colon text)) × IsPort (after_colon text) × (length text ≤ MOST_TEXT) × (name ≡ text)
IsAddress text (Device name) = ((address : SocketAddr) → ¬ IsSocketText text address) × IsTrue (is_device_text text) × (length text ≤ MOST_TEXT)
    × (name ≡ text)
