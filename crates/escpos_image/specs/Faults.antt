-- What programs print of a fault: its number, its name and its place; and where it lies.
use Rattle.std.specs.Prelude.{◌≡◌, ℕ, ◌<◌, List, length, codes, Option, Some, None}
use Rattle.escpos_image.specs.declared.fault.ImageFault.{ImageFault}
use Rattle.escpos_image.specs.declared.fault.ImageError.{ImageError}
use Rattle.escpos_image.specs.declared.fault.ImageError.TheVariants.{Refused, Memory}
use Rattle.escpos_image.specs.declared.fault.ImageFault.TheVariants.{NotPicture, BadHeader, BadSize, BadMaximum, BadSample, CutShort}

abbrev pub fault_number : ImageFault → ℕ
fault_number NotPicture = 1
fault_number (BadHeader at) = 2
fault_number (BadSize at) = 3
fault_number (BadMaximum at) = 4
fault_number (BadSample at) = 5
fault_number (CutShort at) = 6

abbrev pub fault_name : ImageFault → List ℕ
fault_name NotPicture = codes "NotPicture"
fault_name (BadHeader at) = codes "BadHeader"
fault_name (BadSize at) = codes "BadSize"
fault_name (BadMaximum at) = codes "BadMaximum"
fault_name (BadSample at) = codes "BadSample"
fault_name (CutShort at) = codes "CutShort"

abbrev pub fault_place : ImageFault → Option ℕ
fault_place NotPicture = None
fault_place (BadHeader at) = Some at
fault_place (BadSize at) = Some at
fault_place (BadMaximum at) = Some at
fault_place (BadSample at) = Some at
fault_place (CutShort at) = Some at

-- A fault lies at one of the bytes, or, where they are cut short, right after the last.
abbrev pub IsPlaced : List ℕ → ImageFault → Type 0
IsPlaced bytes NotPicture = Unit {0}
IsPlaced bytes (BadHeader at) = at < length bytes
IsPlaced bytes (BadSize at) = at < length bytes
IsPlaced bytes (BadMaximum at) = at < length bytes
IsPlaced bytes (BadSample at) = at < length bytes
IsPlaced bytes (CutShort at) = at ≡ length bytes

abbrev pub IsPlacedError : List ℕ → ImageError → Type 0
IsPlacedError bytes (Refused fault) = IsPlaced bytes fault
IsPlacedError bytes Memory = Unit {0}
