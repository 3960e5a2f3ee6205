-- Which bytes each parameter of the command table may be. The model of a parameter is its byte, as sent.
use Rattle.std.specs.Prelude.{ℕ, ◌==◌, ◌&&◌, ◌||◌, ◌%◌, nat_le, nat_lt, Bool, true, List, [], ◌∷◌, length, Option, None, Some}
use Rattle.std.specs.List.{list_all}

-- Any byte, 0 to 255.
abbrev pub is_byte : ℕ → Bool
is_byte n = nat_lt n 256

-- A number of two bytes.
abbrev pub is_word : ℕ → Bool
is_word n = nat_lt n 65536

-- A character, 20 to FF hexadecimal.
abbrev pub is_character : ℕ → Bool
is_character b = nat_le 0x20 b && is_byte b

-- Choices, sent as a number from 0 or as its digit.
abbrev pub is_one_of_two : ℕ → Bool
is_one_of_two n = n == 0 || n == 1 || n == 48 || n == 49

abbrev pub is_one_of_three : ℕ → Bool
is_one_of_three n = n == 0 || n == 1 || n == 2 || n == 48 || n == 49 || n == 50

abbrev pub is_one_of_four : ℕ → Bool
is_one_of_four n = nat_le n 3 || (nat_le 48 n && nat_le n 51)

-- The number of an international character set, 0 to 17.
abbrev pub is_character_set : ℕ → Bool
is_character_set n = nat_le n 17

-- A size: bits 3 and 7 are clear.
abbrev pub is_size : ℕ → Bool
is_size n = nat_lt n 128 && nat_lt (n % 16) 8

-- The height of a barcode, 1 to 255.
abbrev pub is_bar_height : ℕ → Bool
is_bar_height n = nat_le 1 n && is_byte n

-- The module width of a barcode, 2 to 6.
abbrev pub is_bar_width : ℕ → Bool
is_bar_width n = nat_le 2 n && nat_le n 6

-- A kind of status, 1 to 4.
abbrev pub is_status_kind : ℕ → Bool
is_status_kind n = nat_le 1 n && nat_le n 4

-- The model of a QR code: 49 is model 1, 50 model 2.
abbrev pub is_qr_model : ℕ → Bool
is_qr_model n = n == 49 || n == 50

-- The size of a module of a QR code in dots, 1 to 16.
abbrev pub is_qr_size : ℕ → Bool
is_qr_size n = nat_le 1 n && nat_le n 16

-- The level of error correction of a QR code: 48 to 51, for L, M, Q and H.
abbrev pub is_qr_level : ℕ → Bool
is_qr_level n = nat_le 48 n && nat_le n 51

-- GS V with a feed: 65, 97 and 103 cut the paper through, 66, 98 and 104 leave a point.
abbrev pub is_feed_cut_mode : ℕ → Bool
is_feed_cut_mode m = m == 65 || m == 66 || m == 97 || m == 98 || m == 103 || m == 104

-- What GS V takes: a mode alone, 0 and 48 through, 1 and 49 leaving a point; or another mode and how far the paper is fed
-- first, in motion units.
abbrev pub is_cut : ℕ → Option ℕ → Bool
is_cut m None = is_one_of_two m
is_cut m (Some n) = is_feed_cut_mode m && is_byte n

-- The letters of the older cuts: i leaves one point, m three.
abbrev pub is_old_cut : ℕ → Bool
is_old_cut b = b == 0x69 || b == 0x6D

-- How often a dot of graphics is printed, across and down.
abbrev pub is_graphics_factor : ℕ → Bool
is_graphics_factor n = n == 1 || n == 2

-- The functions by which graphics that are stored are printed: 50, sent as 2 or 50.
abbrev pub is_graphics_print : ℕ → Bool
is_graphics_print n = n == 2 || n == 50

-- Bytes that rise, from one that is greater than the number before them.
abbrev pub rises_from : ℕ → List ℕ → Bool
rises_from before [] = true
rises_from before (n ∷ ns) = nat_lt before n && is_byte n && rises_from n ns

-- The columns of tab stops: at most 32, from 1 on.
abbrev pub is_tab_stops : List ℕ → Bool
is_tab_stops columns = nat_le (length columns) 32 && rises_from 0 columns

-- A pulse to the connector of a cash drawer: which pin, and how long it is on and off.
abbrev pub is_pulse : ℕ × ℕ × ℕ → Bool
is_pulse pulse = is_one_of_two pulse.0 && is_byte pulse.1 && is_byte pulse.2

-- A byte of a mark's id, a printing ASCII character: 32 to 126.
abbrev pub is_mark_byte : ℕ → Bool
is_mark_byte d = nat_le 32 d && nat_le d 126

-- The id of a mark: four such bytes, d1 d2 d3 d4.
abbrev pub is_mark_id : List ℕ → Bool
is_mark_id id = length id == 4 && list_all is_mark_byte id
