-- Which texts are moments, computed.
use Rattle.std.proofs.Common.{◌≡◌, true, false, codes, refl}
use Rattle.cs_wire.specs.Moments.{is_moment}

first : is_moment (codes "1970-01-01T00:00:00Z") ≡ true
first = refl

last_second : is_moment (codes "9999-12-31T23:59:59Z") ≡ true
last_second = refl

leap_day : is_moment (codes "2024-02-29T12:00:00Z") ≡ true
leap_day = refl

leap_century : is_moment (codes "2000-02-29T12:00:00Z") ≡ true
leap_century = refl

common_year : is_moment (codes "2023-02-29T12:00:00Z") ≡ false
common_year = refl

common_century : is_moment (codes "1900-02-29T12:00:00Z") ≡ false
common_century = refl

short_month : is_moment (codes "2024-04-31T00:00:00Z") ≡ false
short_month = refl

long_month : is_moment (codes "2024-08-31T00:00:00Z") ≡ true
long_month = refl

no_day : is_moment (codes "2024-04-00T00:00:00Z") ≡ false
no_day = refl

no_month : is_moment (codes "2024-00-10T00:00:00Z") ≡ false
no_month = refl

thirteenth_month : is_moment (codes "2024-13-01T00:00:00Z") ≡ false
thirteenth_month = refl

no_hour_24 : is_moment (codes "2024-04-01T24:00:00Z") ≡ false
no_hour_24 = refl

no_minute_60 : is_moment (codes "2024-04-01T00:60:00Z") ≡ false
no_minute_60 = refl

no_leap_second : is_moment (codes "2016-12-31T23:59:60Z") ≡ false
no_leap_second = refl

no_fraction : is_moment (codes "2024-04-01T00:00:00.5Z") ≡ false
no_fraction = refl

no_other_zone : is_moment (codes "2024-04-01T00:00:00+00:00") ≡ false
no_other_zone = refl

no_lower_case : is_moment (codes "2024-04-01t00:00:00z") ≡ false
no_lower_case = refl

cut_off : is_moment (codes "2024-04-01T00:00:00") ≡ false
cut_off = refl
