-- The demonstration: a script, and the file of orders that it reads.
use Rattle.std.specs.Prelude.{ℕ, ◌+◌, ◌*◌, ◌%◌, ◌==◌, [], ◌++◌, decimal, codes, zero, suc, if◌then◌else◌}
use Rattle.meaning_cells.specs.Text.{Text}

-- how many pieces an order has; of every eleventh this isn't known
abbrev pub quantity : ℕ → Text
quantity i = if i % 11 == 0 then [] else decimal ((13 * i) % 9)

-- the record of an order by its number
abbrev pub order_line : ℕ → Text
order_line i =
    decimal i ++ codes ",c" ++ decimal ((7 * i) % 10) ++ codes "," ++ quantity i ++ codes "," ++ decimal (100 + (37 * i) % 500) ++ codes "\n"

-- the records of the first orders
abbrev pub order_lines : ℕ → Text
order_lines zero = []
order_lines (suc n) = order_lines n ++ order_line (suc n)

abbrev pub orders_file : ℕ → Text
orders_file n = codes "id,customer,qty,price\n" ++ order_lines n

abbrev pub orders_name : Text
orders_name = codes "orders"

abbrev pub demo_script : Text
demo_script =
    codes "orders = pd.read_csv(\"orders\")\n"
    ++ codes "orders[\"total\"] = orders[\"qty\"] * orders[\"price\"]\n"
    ++ codes "by = orders.groupby(\"customer\")[\"total\"].sum()\n"
    ++ codes "print(by)\n"
    ++ codes "print(orders[\"total\"].rolling(3, min_periods=1).max().sum())\n"
    ++ codes "print(len(orders))\n"
