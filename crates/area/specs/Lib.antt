-- What the words of 01 mean that every layer uses. The definitions, in reading order:
--     Limits           how many routers, changes and steps; the metric and the distance that stand for "none"
--     Refusals         the refusals, by name and number
--     Tests            tests, the first refusal of several, and the lowest number that passes a test
--     Sizes            the sizes that a call checks first
--     Tables           tables of rows of cells, and tables per router
--     Lists            what stands in a list of numbers
--     Bytes            numbers in a list of bytes
-- The laws about them; RowLaws is for a table that is filled row by row, ColumnLaws for one filled column by column,
-- PerRouterLaws for one filled router by router.
pub mod Limits
pub mod Refusals
pub mod Tests
pub mod Sizes
pub mod Tables
pub mod Lists
pub mod Bytes
