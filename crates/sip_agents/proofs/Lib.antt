mod CallIdLines
