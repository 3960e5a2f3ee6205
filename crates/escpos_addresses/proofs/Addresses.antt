-- What a text says as an address.
use Rattle.std.proofs.Common.{◌≡◌, ◌∙◌, ◌≤◌, ap, sym, length, ℕ, List, Option, Some, None, IsTrue, true, false}
use Rattle.std.specs.Prelude.{IfSome}
use Rattle.std.specs.declared.net.socket_addr.SocketAddr.{SocketAddr}
use Rattle.std.specs.declared.net.socket_addr.SocketAddr.TheVariants.{V4, V6}
use Rattle.std.specs.declared.net.socket_addr.SocketAddrV4.{SocketAddrV4}
use Rattle.std.specs.Net.Grammar.{IsSocketText, IsSocketV4Text}
use Rattle.std.proofs.NetLemmas.Theorems.{IsSocketText_unique}
use Rattle.escpos_addresses.specs.declared.address.Address.{Address}
use Rattle.escpos_addresses.specs.declared.address.Address.TheVariants.{Numeric, Named, Device}
use Rattle.escpos_addresses.specs.declared.address.TheConstants.{MOST_TEXT}
use Rattle.escpos_addresses.specs.Address.{IsAddress, IsPort, after_colon, before_colon, is_device_text, is_host_name}

-- A text that is an IP address says no other address.
pub only_numeric : (text : List ℕ) (a : SocketAddr) (address : Address) → IsSocketText text a → IsAddress text address → Numeric a ≡ address
only_numeric text a (Numeric (V4 b)) at h = ap Numeric (IsSocketText_unique text a (V4 b) at h.0)
only_numeric text a (Numeric (V6 b)) at h = ap Numeric (IsSocketText_unique text a (V6 b) at h)
only_numeric text a (Named name) at h = absurd (h.0 a at)
only_numeric text a (Device name) at h = absurd (h.0 a at)

-- A text that is an IPv4 address and says an address has a port.
pub has_port : (text : List ℕ) (a : SocketAddrV4) (address : Address) → IsSocketV4Text text a → IsAddress text address → IsPort (after_colon text)
has_port text a (Numeric (V4 b)) at h = h.1
has_port text a (Numeric (V6 b)) at h = let bad : V4 a ≡ V6 b = IsSocketText_unique text (V4 a) (V6 b) at h in absurd cc
has_port text a (Named name) at h = absurd (h.0 (V4 a) at)
has_port text a (Device name) at h = absurd (h.0 (V4 a) at)

-- A text that is none, and doesn't begin as a device file's, is a name and a port.
pub only_named : (text : List ℕ) (address : Address) → ((a : SocketAddr) → IsSocketText text a → ⊥) → is_device_text text ≡ false → IsAddress text address
    → IsTrue (is_host_name (before_colon text)) × IsPort (after_colon text) × (length text ≤ MOST_TEXT) × (Named text ≡ address)
only_named text (Numeric (V4 b)) not named h = absurd (not (V4 b) h.0)
only_named text (Numeric (V6 b)) not named h = absurd (not (V6 b) h)
only_named text (Named name) not named h = (h.2, h.3, h.4, ap Named (sym h.5))
only_named text (Device name) not named h = let bad : true ≡ false = sym h.1 ∙ named in absurd cc

-- A text that is none, and begins as a device file's, is one.
pub only_device : (text : List ℕ) (address : Address) → ((a : SocketAddr) → IsSocketText text a → ⊥) → is_device_text text ≡ true → IsAddress text address
    → (length text ≤ MOST_TEXT) × (Device text ≡ address)
only_device text (Numeric (V4 b)) not begins h = absurd (not (V4 b) h.0)
only_device text (Numeric (V6 b)) not begins h = absurd (not (V6 b) h)
only_device text (Named name) not begins h = let bad : true ≡ false = sym begins ∙ h.1 in absurd cc
only_device text (Device name) not begins h = (h.2, ap Device (sym h.3))

pub if_some : {T : Type 0} (r : Option T) (P Q : T → Type 0) → ((x : T) → P x → Q x) → IfSome r P → IfSome r Q
if_some None P Q f h = h
if_some (Some x) P Q f h = f x h
